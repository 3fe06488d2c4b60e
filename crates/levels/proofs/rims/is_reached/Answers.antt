use Rattle.levels.proofs.Prelude.{All, All-more, AreSparing, IsSparedBy, IsTrue, NewHeight, SFits, ℤ, of_z, pos, refl, rules, subst, take, take_all, to_z, to_z-of_z, w16}
use Rattle.levels.proofs.rims.is_reached.Goals as goal

abbrev none : NewHeight
none = record { point = record { y = pos 0; x = pos 0 }; was = pos 0; metres = pos 0 }

pub loop-height-preserved : goal.loop-height-preserved
loop-height-preserved c =
    let level = to_z w16 (of_z w16 c.args.level) in
    let yes : IsTrue c.is_spared.result = search rules in
    All-more (IsSparedBy level) c.args.heights.now c.loop-height.height-index none c.loop-height-test.true c.loop-height.invariant (c.is_spared.ensures.0 yes)

pub returns : goal.returns
returns c =
    let heights = c.args.heights.now in
    let i = c.loop-height.height-index in
    let small : SFits w16 c.args.level = search rules in (
      λ _. subst (All (IsSparedBy c.args.level)) (take_all i heights c.loop-height-test.false) (subst (λ (l : ℤ). AreSparing (take i heights) l) (to_z-of_z w16 c.args.level small) c.loop-height.invariant),
      λ _. refl,
    )
