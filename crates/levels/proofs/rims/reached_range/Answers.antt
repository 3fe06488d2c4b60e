use Rattle.std.proofs.Common.{rules, SFits, w16, to_z, of_z, ◌≡◌, ◌<◌, ℤ, Some, inl, inr, length, get_or, pos, sym, ap, ◌∙◌, subst}
use Rattle.levels.proofs.Prelude.{All, All-more, IsIn, IsSpared, IsSparedBy, LevelRange, NewHeight, take_all, to_z-of_z}
use Rattle.levels.proofs.rims.reached_range.Goals as goal
use Rattle.levels.proofs.rims.reached_range.Goals.{then-height, else-height}

abbrev none : NewHeight
none = record { point = record { y = pos 0; x = pos 0 }; was = pos 0; metres = pos 0 }

pub loop-height-preserved : goal.loop-height-preserved
loop-height-preserved c =
    let heights = c.args.heights.now in
    let i = c.loop-height.height-index in
    let h = get_or heights i none in
    let inside : i < length heights = c.loop-height-test.true in
    let had : SFits w16 (get_or c.args.heights.now c.loop-height.height-index none).was = search rules in
    let fits : SFits w16 (get_or c.args.heights.now c.loop-height.height-index none).metres = search rules in
    elim c.if-height.branch [
      | then-height w ↦ λ level sample out.
          let beyond = subst (λ (r : LevelRange). IsIn (Some r) level → ⊥) w.range-is out in
          let more = w.wider-range.ensures.more level sample beyond in
          let spared : IsSpared h.was h.metres level =
          subst (λ (u : ℤ). IsSpared u h.metres level) (to_z-of_z w16 h.was had) (subst (λ (v : ℤ). IsSpared (to_z w16 (of_z w16 h.was)) v level) (to_z-of_z w16 h.metres fits) more) in
          All-more (IsSparedBy level) heights i none inside (c.loop-height.invariant level sample (λ within. beyond (w.wider-range.ensures.before level sample within))) (inr spared)
      | else-height w ↦ λ level sample out.
          let same : h.was ≡ h.metres = sym (to_z-of_z w16 h.was had) ∙ (ap (to_z w16) w.if-height.false ∙ to_z-of_z w16 h.metres fits) in
          All-more (IsSparedBy level) heights i none inside (c.loop-height.invariant level sample (subst (λ (r : LevelRange). IsIn (Some r) level → ⊥) w.range-is out)) (inl same)
    ]

pub returns : goal.returns
returns c level sample out = subst (All (IsSparedBy level)) (take_all c.loop-height.height-index c.args.heights.now c.loop-height-test.false) (c.loop-height.invariant level sample out)
