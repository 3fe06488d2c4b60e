-- The neighbour of a sample's point has coordinates that fit into 32 bits.
use Rattle.std.proofs.Common.{rules}
use Rattle.flow_d8.proofs.Prelude.{Corner, Dir, IsIndexOf, IsTrue, Point, ℕ, ℤ, and_from, arith, east_of, fits_number, fits_point, get_or, index_of_point, ints, largest_side, length, negsuc, north_of, point_of, pos, step, ◌%◌, ◌*◌, ◌+ℤ◌, ◌/◌, ◌<◌, ◌≤ℤ◌, ◌≤◌}
use Rattle.flow_d8.proofs.Samples.Beside.{near}
use Rattle.water.proofs.Fitting.{corner_near}
use Rattle.flow_d8.proofs.Samples.Numbers.{tile_below}
use Rattle.flow_d8.specs.Tiles.{Tiles, AreTiles, count_of, no_corner, place_of}
use Rattle.flow_d8.proofs.Samples.TilePlaces.{square_some}

fits : (v by : ℤ) → negsuc 1000000 ≤ℤ v → v ≤ℤ pos 1000000 → pos 0 ≤ℤ (by +ℤ pos 1) → by ≤ℤ pos 1 → IsTrue (fits_number (v +ℤ by))
fits v by low high back on = search rules

index_fits : (n : ℕ) (c : Corner) (p : Point) (e : ℕ) → n ≤ largest_side → IsIndexOf n c p e → (d : Dir) → IsTrue (fits_point (step d p))
index_fits n c p e most index d =
    let begins = corner_near n c most index.corner in
    let sample = index.sample.2.0 in
    let small = near d in
    and_from (fits_number (p.y +ℤ north_of d)) (fits_number (p.x +ℤ east_of d))
    (fits p.y (north_of d) (omega (arith, ints, sample.y, sample.row, begins.0.0)) (omega (arith, ints, sample.y, begins.0.1)) small.0 small.1)
    (fits p.x (east_of d) (omega (arith, ints, sample.x, begins.1.0)) (omega (arith, ints, sample.x, sample.column, begins.1.1)) small.2 small.3)

pub step_fits : (t : Tiles) → AreTiles t → (k : ℕ) → k < count_of t → (d : Dir) → IsTrue (fits_point (step d (place_of t k)))
unfolding place_of
step_fits t valid k small d =
    let area = t.side * t.side in
    let some = square_some t.side valid.side_low in
    let c = get_or t.corners (k / area) no_corner in
    index_fits t.side c (point_of t.side c (k % area)) (k % area) valid.side_high
    (index_of_point t.side c (k % area) (omega (arith, valid.side_low)) (valid.corners (k / area) (tile_below area (length t.corners) k some small)) (omega arith)) d
