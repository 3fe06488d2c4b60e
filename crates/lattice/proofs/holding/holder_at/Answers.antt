use Rattle.std.proofs.Common.{◌≡◌, ◌∙◌, ap₂, refl, sym, subst, SomeIff, w64, ℤ, SFits, rules}
use Rattle.lattice.proofs.Prelude.{Corner, Holds, corner_at, false≢true, to_z-of_z}
use Rattle.lattice.proofs.holding.holder_at.Goals as goal

pub returns-in_err-index_in : goal.returns-in_err-index_in
returns-in_err-index_in c =
    let here = corner_at c.args.degrees in
    let lat : SFits w64 c.args.degrees.lat = search rules in
    let lon : SFits w64 c.args.degrees.lon = search rules in
    let is : ◌≡◌ {A = Corner} c.in_ok-corner.corner here =
    c.in_ok-corner.ensures.1 ∙ ap₂ (λ (a b : ℤ). record { lat = a; lon = b }) (to_z-of_z w64 c.args.degrees.lat lat) (to_z-of_z w64 c.args.degrees.lon lon) in
    let held = c.in_err-index_in.ensures.held in
    subst (λ r. SomeIff r (Holds c.args.side here c.args.point) here) (sym c.from_residual-in_err-index_in.ensures)
    (λ h. false≢true (held.1 (subst (λ k. Holds c.args.side k c.args.point) (sym is) h)))

pub returns : goal.returns
returns c =
    let here = corner_at c.args.degrees in
    let lat : SFits w64 c.args.degrees.lat = search rules in
    let lon : SFits w64 c.args.degrees.lon = search rules in
    let is : ◌≡◌ {A = Corner} c.in_ok-corner.corner here =
    c.in_ok-corner.ensures.1 ∙ ap₂ (λ (a b : ℤ). record { lat = a; lon = b }) (to_z-of_z w64 c.args.degrees.lat lat) (to_z-of_z w64 c.args.degrees.lon lon) in
    (subst (λ k. Holds c.args.side k c.args.point) is (c.in_ok-index_in.ensures.held.0 refl), is)
