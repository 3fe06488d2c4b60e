use Rattle.edits.proofs.Prelude.{inl, inr, of_z, rules, to_z, to_z-of_z}
use mir.Syntax.{w32}
use mir.Val.{SFits}
use Rattle.edits.proofs.BoxVoids.Overlapping.{some_corner, held_as}
use Rattle.edits.proofs.void_tiles.holders_of_box.Goals as goal

pub returns-clause-all : goal.returns-clause-all
returns-clause-all c = λ corner p within held.
    let n = c.args.side in
    let from = c.args.from in
    let to = c.args.to in
    let south : SFits w32 from.y = search rules in
    let north : SFits w32 to.y = search rules in
    let west : SFits w32 from.x = search rules in
    let east : SFits w32 to.x = search rules in
    elim (some_corner n c.edge-edge.ensures.low from to c.requires corner p within held) [
      | inl (inl at) ↦ c.add_holders-4.ensures.kept corner (c.add_holders-3.ensures.kept corner (c.add_holders-2.ensures.kept corner (c.add_holders.ensures.added corner at)))
      | inl (inr at) ↦ c.add_holders-4.ensures.kept corner (c.add_holders-3.ensures.kept corner (c.add_holders-2.ensures.added corner
          (held_as n corner from.y (to_z w32 (of_z w32 from.y)) to.x (to_z w32 (of_z w32 to.x)) (to_z-of_z w32 from.y south) (to_z-of_z w32 to.x east) at)))
      | inr (inl at) ↦ c.add_holders-4.ensures.kept corner (c.add_holders-3.ensures.added corner
          (held_as n corner to.y (to_z w32 (of_z w32 to.y)) from.x (to_z w32 (of_z w32 from.x)) (to_z-of_z w32 to.y north) (to_z-of_z w32 from.x west) at))
      | inr (inr at) ↦ c.add_holders-4.ensures.added corner at
    ]
