use Rattle.tile_flood.proofs.Prelude.{SFits, ap, arith, of_z, rules, slice_index_or, subst, to_z, void, w16, ◌<ℤ◌, ◌∙◌, ◌≡◌}
use Rattle.std.proofs.lemmas.Int.{ints, to_z-of_z}
use Rattle.tile_flood.proofs.flood.Flood.is_spared.Goals as goal

pub returns-then-is_above-clause-no_suspect : goal.returns-then-is_above-clause-no_suspect
returns-then-is_above-clause-no_suspect c spared suspect =
    let level = slice_index_or c.args.self.now.levels.items c.args.e void in
    let fits : SFits w16 c.at.result = search rules in
    let at : to_z w16 (of_z w16 c.at.result) ≡ level = to_z-of_z w16 c.at.result fits ∙ (c.at.ensures ∙ ap (λ ls. slice_index_or ls c.args.e void) c.deref.ensures.value) in
    let less : level <ℤ level = subst (λ l. l <ℤ level) at (c.is_above.ensures c.if-is_above.true level c.args.e suspect) in
    absurd (omega (arith, ints))
