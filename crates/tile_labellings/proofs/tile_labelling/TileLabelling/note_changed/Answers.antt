use Rattle.std.proofs.Common.{◌≡◌, ℕ, ℤ, sym, ◌∙◌, rules, subst, SFits, w16, to_z, of_z}
use Rattle.std.proofs.lemmas.Bool.{and_parts}
use Rattle.std.proofs.lemmas.Int.{to_z-of_z}
use Rattle.tile_labellings.specs.TileLabellings.{IsBelow, IsTileLabelling}
use Rattle.tile_labellings.specs.declared.tile_labelling.TileLabelling.{TileLabelling}
use Rattle.tile_labellings.proofs.KeptStill.{flooded_still, kept_still}
use Rattle.tile_labellings.proofs.tile_labelling.TileLabelling.note_changed.Goals as goal

ranged : (l k : TileLabelling) (e : ℕ) (was to : ℤ) → SFits w16 was → SFits w16 to → l ≡ k → IsBelow l e (to_z w16 (of_z w16 was)) (to_z w16 (of_z w16 to)) → IsBelow k e was to
ranged l k e was to had fits is below =
    subst (λ (x : TileLabelling). IsBelow x e was to) is
    (subst (λ v. IsBelow l e v to) (to_z-of_z w16 was had) (subst (λ v. IsBelow l e (to_z w16 (of_z w16 was)) v) (to_z-of_z w16 to fits) below))

pub returns-in-Kept-clause-noted : goal.returns-in-Kept-clause-noted
returns-in-Kept-clause-noted c done m new corner differ set_from is =
    let labelled = c.in-Kept.field-0 in
    let had : SFits w16 c.args.was = search rules in
    let fits : SFits w16 c.args.to = search rules in
    let below = ranged c.args.self.now _ c.args.index c.args.was c.args.to had fits c.in-Kept.is (c.is_below-stays.ensures.yes done) in
    subst (IsTileLabelling new corner) (sym c.in-Kept.is)
    (kept_still m new corner c.args.index differ labelled (subst (IsTileLabelling m corner) c.in-Kept.is is) c.args.was c.args.to set_from below.1)

pub returns-in-Flooded-clause-noted : goal.returns-in-Flooded-clause-noted
returns-in-Flooded-clause-noted c done m new corner differ set_from is =
    let noted = c.note_changed.ensures in
    let flooded = c.in-Flooded.flooded in
    let had : SFits w16 c.args.was = search rules in
    let fits : SFits w16 c.args.to = search rules in
    flooded_still m new corner c.args.index differ c.args.was c.args.to set_from flooded c.note_changed.new.self noted.block noted.labelled (noted.noted done) noted.kept
    (λ still.
    let both = and_parts flooded.still c.is_below-stays.result (sym (noted.still done) ∙ still) in
    (both.0, (ranged c.args.self.now _ c.args.index c.args.was c.args.to had fits c.in-Flooded.is (c.is_below-stays.ensures.yes both.1)).1))
    (subst (IsTileLabelling m corner) c.in-Flooded.is is)
