use Rattle.tile_flood.proofs.Prelude.{SFits, ap, arith, ext_get_or, length, length-map, length-set, level_of, levels_of, of_z, rules, sym, to_z, to_z-of_z, void, w16, ◌<◌, ◌∙◌}
use Rattle.tile_flood.proofs.InCells.{none, level_at, one_more}
use Rattle.tile_flood.proofs.cells.levels_in.Goals as goal

pub loop-e-preserved : goal.loop-e-preserved
loop-e-preserved c =
    let fits : SFits w16 c.level_in.result = search rules in
    let cells = c.args.cells.now in
    let i = c.loop-e.invariant in
    let e = c.loop-e.e in
    let whole = i.whole in
    let inside : e < length cells = omega arith in
    let level = to_z w16 (of_z w16 c.level_in.result) in
    record {
      whole = length-set c.loop-e.levels.items e level ∙ i.whole;
      below = one_more void c.loop-e.levels.items (levels_of cells) e level (omega arith)
          (to_z-of_z fits ∙ (c.level_in.ensures ∙ (ap level_of (c.cell_at.ensures none) ∙ sym (level_at cells e none inside)))) i.below;
    }

pub returns : goal.returns
returns c =
    let cells = c.args.cells.now in
    let long = length-map cells level_of in
    ext_get_or void c.loop-e.levels.items (levels_of cells) (omega arith) (λ f below. c.loop-e.invariant.below f (omega arith))
