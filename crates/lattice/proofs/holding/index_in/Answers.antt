use Rattle.lattice.proofs.Prelude.{Corner, IsIndexOf, IsTrue, SFits, ap, is_corner, of_z, pos, refl, rules, subst, sym, to_z, to_z-of_z, w16, w32, ◌*ℤ◌, ◌*◌, ◌+ℤ◌, ◌+◌, ◌-◌, ◌∙◌, ◌≡◌, ◌≤◌}
use Rattle.lattice.proofs.Samples.{held_at, index_from}
use Rattle.lattice.proofs.holding.index_in.Goals as goal

index : (c : goal.After-samples) → IsIndexOf c.args.side c.args.corner c.args.point ((c.edge-edge.result - c.in_ok-north.north) * c.samples.result + c.in_ok-east.east)
index c =
    let view : ◌≡◌ {A = Corner} (record { lat = c.corner.inside.lat; lon = c.corner.inside.lon }) c.args.corner = c.corner.view_is in
    let corner : IsTrue (is_corner c.args.corner) = subst (λ k. IsTrue (is_corner k)) view c.corner.invariant in
    let edge : c.edge-edge.result ≡ c.args.side - 1 = c.edge-edge.ensures.value in
    let lat_fits : SFits w16 c.corner.inside.lat = search rules in
    let lon_fits : SFits w16 c.corner.inside.lon = search rules in
    let y_fits : SFits w32 c.args.point.y = search rules in
    let x_fits : SFits w32 c.args.point.x = search rules in
    let north : (c.in_ok-north.north ≤ c.edge-edge.result) × (to_z w32 (of_z w32 c.args.point.y) ≡ to_z w16 (of_z w16 c.corner.inside.lat) *ℤ pos c.edge-edge.result +ℤ pos c.in_ok-north.north) = c.in_ok-north.ensures in
    let east : (c.in_ok-east.east ≤ c.edge-edge.result) × (to_z w32 (of_z w32 c.args.point.x) ≡ to_z w16 (of_z w16 c.corner.inside.lon) *ℤ pos c.edge-edge.result +ℤ pos c.in_ok-east.east) = c.in_ok-east.ensures in
    let y : c.args.point.y ≡ c.args.corner.lat *ℤ pos (c.args.side - 1) +ℤ pos c.in_ok-north.north =
    sym (to_z-of_z w32 c.args.point.y y_fits) ∙ north.1 ∙ ap (λ z. z *ℤ pos c.edge-edge.result +ℤ pos c.in_ok-north.north) (to_z-of_z w16 c.corner.inside.lat lat_fits ∙ ap (λ (k : Corner). k.lat) view)
    ∙ ap (λ m. c.args.corner.lat *ℤ pos m +ℤ pos c.in_ok-north.north) edge in
    let x : c.args.point.x ≡ c.args.corner.lon *ℤ pos (c.args.side - 1) +ℤ pos c.in_ok-east.east =
    sym (to_z-of_z w32 c.args.point.x x_fits) ∙ east.1 ∙ ap (λ z. z *ℤ pos c.edge-edge.result +ℤ pos c.in_ok-east.east) (to_z-of_z w16 c.corner.inside.lon lon_fits ∙ ap (λ (k : Corner). k.lon) view)
    ∙ ap (λ m. c.args.corner.lon *ℤ pos m +ℤ pos c.in_ok-east.east) edge in
    let whole : IsIndexOf c.args.side c.args.corner c.args.point ((c.args.side - 1 - c.in_ok-north.north) * c.args.side + c.in_ok-east.east) =
    index_from c.args.side c.args.corner c.args.point c.in_ok-north.north c.in_ok-east.east c.edge-edge.ensures.low corner
    (subst (λ m. c.in_ok-north.north ≤ m) edge north.0) (subst (λ m. c.in_ok-east.east ≤ m) edge east.0) y x in
    subst (λ m. IsIndexOf c.args.side c.args.corner c.args.point ((m - c.in_ok-north.north) * c.samples.result + c.in_ok-east.east)) (sym edge)
    (subst (λ n. IsIndexOf c.args.side c.args.corner c.args.point ((c.args.side - 1 - c.in_ok-north.north) * n + c.in_ok-east.east)) (sym c.samples.ensures.value) whole)

pub returns-clause-held : goal.returns-clause-held
returns-clause-held c = (λ _. held_at c.args.side c.args.corner c.args.point ((c.edge-edge.result - c.in_ok-north.north) * c.samples.result + c.in_ok-east.east) (index c), λ _. refl)

pub returns-clause-index : goal.returns-clause-index
returns-clause-index c = index c
