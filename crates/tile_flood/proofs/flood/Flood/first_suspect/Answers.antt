use Rattle.tile_flood.proofs.Prelude.{SFits, ℤ, ap, arith, inr, of_z, pos, rules, slice_index_or, subst, sym, to_z, void, w16, ◌+ℤ◌, ◌<ℤ◌, ◌∙◌, ◌≡◌, ◌≤ℤ◌}
use Rattle.std.specs.Int.{int_min}
use Rattle.std.proofs.lemmas.Int.{ints, clamps, to_z-of_z}
use Rattle.tile_flood.proofs.flood.Flood.first_suspect.Goals as goal

next_at_most : (level m v : ℤ) → m ≡ int_min level (pos 32766) → level <ℤ v → (m +ℤ pos 1) ≤ℤ v
next_at_most level m v is above = omega (arith, ints, clamps)

pub returns-then-is_spared : goal.returns-then-is_spared
returns-then-is_spared c =
    let level = slice_index_or c.args.self.now.levels.items c.args.e void in
    let fits : SFits w16 c.at-level.result = search rules in
    let at : to_z w16 (of_z w16 c.at-level.result) ≡ level = to_z-of_z w16 c.at-level.result fits ∙ (c.at-level.ensures ∙ ap (λ ls. slice_index_or ls c.args.e void) c.deref.ensures.value) in
    let fits_min : SFits w16 c.min.result = search rules in
    let least : to_z w16 (of_z w16 c.min.result) ≡ int_min level (pos 32766) = to_z-of_z w16 c.min.result fits_min ∙ (c.min.ensures.value ∙ ap (λ l. int_min l (pos 32766)) at) in
    let next = to_z w16 (of_z w16 c.min.result) +ℤ pos 1 in
    let fits_next : SFits w16 next = search rules in
    inr (
      λ v above. subst (λ l. l ≤ℤ v) (sym (to_z-of_z w16 next fits_next)) (next_at_most level (to_z w16 (of_z w16 c.min.result)) v least above),
      (c.is_spared.ensures.together c.if-is_spared.true, c.is_spared.ensures.no_suspect c.if-is_spared.true),
    )
