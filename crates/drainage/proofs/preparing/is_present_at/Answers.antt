use Rattle.drainage.proofs.Prelude.{Corner, IsTrue, SFits, ℤ, ap₂, is_corner, is_present, rules, subst, to_z-of_z, w16, ◌∙◌, ◌≡◌}
use Rattle.drainage.proofs.Tiles.PaddedLevels.{told_present, none_present}
use Rattle.drainage.proofs.preparing.is_present_at.Goals as goal

abbrev at : ℤ → ℤ → Corner
at lat lon = record { lat = lat; lon = lon }

pub returns-in-Some : goal.returns-in-Some
returns-in-Some g c honest =
    let a = c.args.samples.now in
    let m = g.S.Samples.mosaic a in
    let lat : SFits w16 c.args.lat = search rules in
    let lon : SFits w16 c.args.lon = search rules in
    let same = ap₂ (λ y x. at y x) (to_z-of_z w16 c.args.lat lat) (to_z-of_z w16 c.args.lon lon) in
    subst (λ (d : Corner). c.present.result ≡ is_present m d) (c.in-Some.ensures.1 ∙ same)
    (told_present m c.in-Some.corner (g.S.Samples.corners a) (g.met.S.Samples.same_corners a honest) c.present.result c.present.ensures.answer)

pub returns-in-None : goal.returns-in-None
returns-in-None g c honest =
    let a = c.args.samples.now in
    let lat : SFits w16 c.args.lat = search rules in
    let lon : SFits w16 c.args.lon = search rules in
    let same = ap₂ (λ y x. at y x) (to_z-of_z w16 c.args.lat lat) (to_z-of_z w16 c.args.lon lon) in
    none_present (g.S.Samples.mosaic a) (g.met.S.Samples.is_mosaic a honest) (at c.args.lat c.args.lon)
    (subst (λ (d : Corner). IsTrue (is_corner d) → ⊥) same c.in-None.ensures)
