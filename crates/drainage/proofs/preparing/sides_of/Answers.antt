use Rattle.drainage.proofs.Prelude.{Corner, Mosaic, ℤ, ap, ap₂, is_present, of_z, pos, rules, to_z, to_z-of_z, w16, ◌+ℤ◌, ◌-ℤ◌, ◌∙◌, ◌≡◌}
use Rattle.drainage.proofs.preparing.sides_of.Goals as goal

abbrev at : ℤ → ℤ → Corner
at lat lon = record { lat = lat; lon = lon }

there : (m : Mosaic) (y x lat lon : ℤ) → y ≡ lat → x ≡ lon → is_present m (at y x) ≡ is_present m (at lat lon)
there m y x lat lon row column = ap₂ (λ a b. is_present m (at a b)) row column

pub returns : goal.returns
returns g c honest =
    let m = g.S.Samples.mosaic c.args.samples.now in
    let la = c.corner.inside.lat in
    let lo = c.corner.inside.lon in
    let lat : to_z w16 (of_z w16 la) ≡ la = to_z-of_z w16 la (search rules) in
    let lon : to_z w16 (of_z w16 lo) ≡ lo = to_z-of_z w16 lo (search rules) in
    record {
      north = c.is_present_at.ensures honest ∙ there m _ _ _ _ (to_z-of_z w16 (to_z w16 (of_z w16 la) +ℤ pos 1) (search rules) ∙ ap (λ y. y +ℤ pos 1) lat ∙ ap (λ (d : Corner). d.lat +ℤ pos 1) c.corner.view_is) (lon ∙ ap (λ (d : Corner). d.lon) c.corner.view_is);
      east = c.is_present_at-2.ensures honest ∙ there m _ _ _ _ (lat ∙ ap (λ (d : Corner). d.lat) c.corner.view_is) (to_z-of_z w16 (to_z w16 (of_z w16 lo) +ℤ pos 1) (search rules) ∙ ap (λ y. y +ℤ pos 1) lon ∙ ap (λ (d : Corner). d.lon +ℤ pos 1) c.corner.view_is);
      south = c.is_present_at-3.ensures honest ∙ there m _ _ _ _ (to_z-of_z w16 (to_z w16 (of_z w16 la) -ℤ pos 1) (search rules) ∙ ap (λ y. y -ℤ pos 1) lat ∙ ap (λ (d : Corner). d.lat -ℤ pos 1) c.corner.view_is) (lon ∙ ap (λ (d : Corner). d.lon) c.corner.view_is);
      west = c.is_present_at-4.ensures honest ∙ there m _ _ _ _ (lat ∙ ap (λ (d : Corner). d.lat) c.corner.view_is) (to_z-of_z w16 (to_z w16 (of_z w16 lo) -ℤ pos 1) (search rules) ∙ ap (λ y. y -ℤ pos 1) lon ∙ ap (λ (d : Corner). d.lon -ℤ pos 1) c.corner.view_is);
    }
