use Rattle.flow_d8.proofs.Prelude.{IsTrue, ℤ, ap, ap₂, false, filled_of, list_any, of_z, subst, sym, to_z, to_z-of_z, w16, ◌∙◌, ◌≡◌}
use Rattle.lattice.specs.Corners.{Corner, is_corner, same_corner}
use Rattle.flow_d8.proofs.Mosaics.LevelsOf.{has_tile, no_such_corner}
use Rattle.flow_d8.proofs.padding.is_present_at.Goals as goal

corner_at : ℤ → ℤ → Corner
corner_at a b = record { lat = a; lon = b }

pub returns-in-Some : goal.returns-in-Some
unfolding corner_at
returns-in-Some c m levels sinks is of =
    let t = c.args.tiles.now in
    let same : corner_at (to_z w16 (of_z w16 c.args.lat)) (to_z w16 (of_z w16 c.args.lon)) ≡ corner_at c.args.lat c.args.lon = ap₂ corner_at (to_z-of_z w16 c.args.lat c.ranges.lat) (to_z-of_z w16 c.args.lon c.ranges.lon) in
    has_tile m is (filled_of t levels sinks) of (corner_at c.args.lat c.args.lon) c.has.result
    (c.has.ensures ∙ ap (λ (d : Corner). list_any (λ e. same_corner e d) t.corners) (c.in-Some.ensures.1 ∙ same))

pub returns-in-None : goal.returns-in-None
unfolding corner_at
returns-in-None c m levels sinks is of =
    let t = c.args.tiles.now in
    let same : corner_at (to_z w16 (of_z w16 c.args.lat)) (to_z w16 (of_z w16 c.args.lon)) ≡ corner_at c.args.lat c.args.lon = ap₂ corner_at (to_z-of_z w16 c.args.lat c.ranges.lat) (to_z-of_z w16 c.args.lon c.ranges.lon) in
    has_tile m is (filled_of t levels sinks) of (corner_at c.args.lat c.args.lon) false
    (sym (no_such_corner (corner_at c.args.lat c.args.lon) t.corners (λ one. c.in-None.ensures (subst (λ (d : Corner). IsTrue (is_corner d)) (sym same) one)) c.tiles-valid.ensures.valid.corners))
