use Rattle.lattice.proofs.Prelude.{Corner, IsIndexOf, IsTrue, Point, SFits, ℕ, ℤ, ap, ap₂, arith, is_corner, of_z, point_of, pos, rules, subst, sym, to_z, to_z-of_z, w16, w32, ◌%◌, ◌*ℤ◌, ◌+ℤ◌, ◌-ℤ◌, ◌-◌, ◌/◌, ◌<◌, ◌∙◌, ◌≡◌, ◌≤◌}
use Rattle.lattice.proofs.Samples.{index_of_point, row_below, from_south}
use Rattle.lattice.proofs.holding.point_at.Goals as goal

view : (c : goal.After-value_along-2) → ◌≡◌ {A = Corner} (record { lat = c.corner.inside.lat; lon = c.corner.inside.lon }) c.args.corner
view c = c.corner.view_is

is_point : (c : goal.After-value_along-2) →
    ◌≡◌ {A = Point} (record { y = to_z w32 (of_z w32 c.value_along.result); x = to_z w32 (of_z w32 c.value_along-2.result) }) (point_of c.args.side c.args.corner c.args.index)
is_point c =
    let n = c.args.side in
    let m = c.args.side - 1 in
    let e = c.args.index in
    let edge : c.edge-edge.result ≡ m = c.edge-edge.ensures.value in
    let lat_fits : SFits w16 c.corner.inside.lat = search rules in
    let lon_fits : SFits w16 c.corner.inside.lon = search rules in
    let lat : to_z w16 (of_z w16 c.corner.inside.lat) ≡ c.args.corner.lat = to_z-of_z w16 c.corner.inside.lat lat_fits ∙ ap (λ (k : Corner). k.lat) (view c) in
    let lon : to_z w16 (of_z w16 c.corner.inside.lon) ≡ c.args.corner.lon = to_z-of_z w16 c.corner.inside.lon lon_fits ∙ ap (λ (k : Corner). k.lon) (view c) in
    let some : 0 < n = omega (arith, c.edge-edge.ensures.low) in
    let row : e / n ≤ m = omega (arith, row_below n e some c.requires) in
    let y : to_z w32 (of_z w32 c.value_along.result) ≡ (c.args.corner.lat *ℤ pos m +ℤ pos m) -ℤ pos (e / n) =
    to_z-of_z w32 c.value_along.result (record { sfits = c.value_along.type_inv }) ∙ c.value_along.ensures
    ∙ ap₂ (λ (z : ℤ) (k : ℕ). z *ℤ pos k +ℤ pos (k - e / c.samples.result)) lat edge
    ∙ ap (λ (k : ℕ). c.args.corner.lat *ℤ pos m +ℤ pos (m - e / k)) c.samples.ensures.value
    ∙ from_south (c.args.corner.lat *ℤ pos m) m (e / n) row in
    let x : to_z w32 (of_z w32 c.value_along-2.result) ≡ c.args.corner.lon *ℤ pos m +ℤ pos (e % n) =
    to_z-of_z w32 c.value_along-2.result (record { sfits = c.value_along-2.type_inv }) ∙ c.value_along-2.ensures
    ∙ ap₂ (λ (z : ℤ) (k : ℕ). z *ℤ pos k +ℤ pos (e % c.samples-2.result)) lon edge
    ∙ ap (λ (k : ℕ). c.args.corner.lon *ℤ pos m +ℤ pos (e % k)) c.samples-2.ensures.value in
    ap₂ (λ (a b : ℤ). record { y = a; x = b }) y x

pub returns-clause-value : goal.returns-clause-value
returns-clause-value c = is_point c

pub returns-clause-index : goal.returns-clause-index
returns-clause-index c =
    let corner : IsTrue (is_corner c.args.corner) = subst (λ k. IsTrue (is_corner k)) (view c) c.corner.invariant in
    let some : 0 < c.args.side = omega (arith, c.edge-edge.ensures.low) in
    subst (λ (p : Point). IsIndexOf c.args.side c.args.corner p c.args.index) (sym (is_point c)) (index_of_point c.args.side c.args.corner c.args.index some corner c.requires)
