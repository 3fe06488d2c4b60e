use Rattle.tile_flood.proofs.Prelude.{IsBesideWith, SFits, ap, arith, block_of, inr, ints, is_exit, le_true, of_z, pos, rules, slice_index, slice_index_or, subst, sym, to_z, void, w16, ◌%◌, ◌*◌, ◌+◌, ◌-ℤ◌, ◌/◌, ◌<ℤ◌, ◌∙◌, ◌≡◌, ◌≤ℤ◌}
use Rattle.std.proofs.lemmas.Int.{to_z-of_z}
use Rattle.labelling.proofs.Squares.{cell_of}
use Rattle.tile_flood.proofs.Steps.{held_beside}
use Rattle.tile_flood.proofs.flood.Flood.is_held.Goals as goal

pub returns-then-at-level-clause-held : goal.returns-then-at-level-clause-held
returns-then-at-level-clause-held c found =
    let n = c.args.block.now.n in
    let e = c.args.e in
    let levels = c.args.self.now.levels.items in
    let labels = c.args.self.now.labels.items in
    let b = block_of n c.args.block.now.heights.now c.args.block.now.sinks.now in
    let cell : e ≡ (e / n) * n + e % n = cell_of n e in
    let fits_level : SFits w16 c.at-level.result = search rules in
    let fits_at : SFits w16 c.at.result = search rules in
    let level : c.at-level.result ≡ slice_index_or levels e void = c.at-level.ensures ∙ ap (λ ls. slice_index_or ls e void) c.deref.ensures.value in
    let own : c.label_at.result ≡ slice_index labels e = c.label_at.ensures ∙ ap (λ bs. slice_index bs e) c.deref-then-at-level.ensures.value in
    let low : slice_index_or c.args.block.now.heights.now e void ≤ℤ slice_index_or levels e void = subst (λ h. h ≤ℤ slice_index_or levels e void) (to_z-of_z w16 c.at.result fits_at ∙ c.at.ensures)
    (subst (λ l. to_z w16 (of_z w16 c.at.result) ≤ℤ l) (to_z-of_z w16 c.at-level.result fits_level ∙ level) (le_true (to_z w16 (of_z w16 c.at.result)) (to_z w16 (of_z w16 c.at-level.result)) c.if-at-level.true)) in
    let l = to_z w16 (of_z w16 c.at-level.result) in
    let m = l -ℤ pos 1 in
    let fits_m : SFits w16 m = search rules in
    let most : to_z w16 (of_z w16 m) ≡ m = to_z-of_z w16 m fits_m in
    let below : m <ℤ l = omega (arith, ints) in
    let beside = subst (λ label. IsBesideWith n levels labels e label (to_z w16 (of_z w16 m))) own (c.has_beside.ensures found) in
    inr (held_beside n c.args.block.now.heights.now c.args.block.now.sinks.now levels labels e (to_z w16 (of_z w16 m)) c.requires.ground (ap (is_exit b) cell ∙ c.in-None.ensures.none) c.requires.marked low beside (subst (λ v. to_z w16 (of_z w16 m) <ℤ v) (to_z-of_z w16 c.at-level.result fits_level ∙ level) (subst (λ v. v <ℤ l) (sym most) below)))
