-- The coordinates of a mosaic's ground points fit into 32 bits.
use Rattle.std.proofs.Common.{All, IsTrue, List, ℕ, [], arith, suc, sym, true≢false, ⊎_elim, ◌∷◌, ◌≤◌}
use Rattle.lattice.specs.Mosaic.{IsMosaic, IsTile, Mosaic, Tile}
use Rattle.lattice.specs.declared.point.Point.{Point}
use Rattle.std.proofs.lemmas.Bool.{and_from, or_cases}
use Rattle.lattice.specs.Stepping.{fits_point}
use Rattle.lattice.proofs.WaysOut.{held}
use Rattle.lattice.specs.Lattice.{holds}
use Rattle.lattice.specs.Corners.{is_corner}
use Rattle.lattice.specs.Ground.{is_ground}
use Rattle.lattice.specs.Limits.{largest_side}
use Rattle.std.specs.List.{list_any}
use Rattle.std.specs.Prelude.{◌≡◌, ℤ, pos, negsuc, ◌*ℤ◌, ◌*◌, ◌-◌, ◌<◌, ◌≤ℤ◌, int_le, true, ◌&&◌}
use Rattle.lattice.specs.Corners.{Corner}
use Rattle.lattice.specs.Lattice.{is_along}
use Rattle.lattice.specs.Stepping.{fits_number}
use Rattle.std.proofs.lemmas.Bool.{and_parts}
use Rattle.lattice.proofs.Along.{from_parts, parts}
use Rattle.std.proofs.lemmas.Int.{ints}
use Rattle.lattice.proofs.IntTests.{le_from, le_true}
use Rattle.std.proofs.Math.Nat.{mul-le-mul_right}

scaled : (a : ℤ) (m : ℕ) → m ≤ 3600 → negsuc 179 ≤ℤ a → a ≤ℤ pos 180 → (negsuc 648000 ≤ℤ (a *ℤ pos m)) × ((a *ℤ pos m) ≤ℤ pos 648000)
scaled (pos x) m small low high =
    let small_x : x ≤ 180 = omega (arith, ints) in
    let one : x * m ≤ 180 * m = mul-le-mul_right m small_x in
    (omega (arith, ints), omega (arith, ints))
scaled (negsuc x) m small low high =
    let small_x : suc x ≤ 180 = omega (arith, ints) in
    let one : suc x * m ≤ 180 * m = mul-le-mul_right m small_x in
    (omega (arith, ints), omega (arith, ints))

-- bounds of the coordinates of a tile's corner
pub corner_near : (n : ℕ) (c : Corner) → n ≤ largest_side → IsTrue (is_corner c)
    → ((negsuc 648000 ≤ℤ (c.lat *ℤ pos (n - 1))) × ((c.lat *ℤ pos (n - 1)) ≤ℤ pos 648000)) × ((negsuc 648000 ≤ℤ (c.lon *ℤ pos (n - 1))) × ((c.lon *ℤ pos (n - 1)) ≤ℤ pos 648000))
corner_near n c most is =
    let first = and_parts (int_le (negsuc 89) c.lat && int_le c.lat (pos 89) && int_le (negsuc 179) c.lon) (int_le c.lon (pos 179)) is in
    let second = and_parts (int_le (negsuc 89) c.lat && int_le c.lat (pos 89)) (int_le (negsuc 179) c.lon) first.0 in
    let third = and_parts (int_le (negsuc 89) c.lat) (int_le c.lat (pos 89)) second.0 in
    let west : negsuc 179 ≤ℤ c.lon = le_true _ _ second.1 in
    let east : c.lon ≤ℤ pos 179 = le_true _ _ first.1 in
    let south : negsuc 89 ≤ℤ c.lat = le_true _ _ third.0 in
    let north : c.lat ≤ℤ pos 89 = le_true _ _ third.1 in
    let edge : n - 1 ≤ 3600 = omega arith in
    (scaled c.lat (n - 1) edge (omega (arith, ints)) (omega (arith, ints)), scaled c.lon (n - 1) edge (omega (arith, ints)) (omega (arith, ints)))

-- the coordinates of a point that a tile holds fit into 32 bits
pub held_fits : (n : ℕ) (c : Corner) (p : Point) → 3 ≤ n → n ≤ largest_side → IsTrue (is_corner c && holds n c p) → IsTrue (fits_point p)
held_fits n c p side most both =
    let is = (and_parts (is_corner c) (holds n c p) both).0 in
    let on = (and_parts (is_corner c) (holds n c p) both).1 in
    let near = corner_near n c most is in
    let along = and_parts (is_along (pos (n - 1)) c.lat p.y) (is_along (pos (n - 1)) c.lon p.x) on in
    let y = parts (n - 1) c.lat p.y along.0 in
    let x = parts (n - 1) c.lon p.x along.1 in
    and_from (fits_number p.y) (fits_number p.x) (fits p.y (omega (arith, ints, y.0, near.0.0)) (omega (arith, ints, y.1, near.0.1))) (fits p.x (omega (arith, ints, x.0, near.1.0)) (omega (arith, ints, x.1, near.1.1)))
  where
    fits : (v : ℤ) → negsuc 2147483647 ≤ℤ v → v ≤ℤ pos 2147483647 → IsTrue (fits_number v)
    fits v low high = and_from (int_le (negsuc 2147483647) v) (int_le v (pos 2147483647)) (le_from (negsuc 2147483647) v low) (le_from v (pos 2147483647) high)

fits_of : (n : ℕ) (p : Point) (tiles : List Tile) → 3 ≤ n → n ≤ largest_side → All (IsTile n) tiles → IsTrue (list_any (λ t. holds n t.corner p) tiles) → IsTrue (fits_point p)
fits_of n p [] low high whole h = absurd (true≢false (sym h))
fits_of n p (t ∷ rest) low high whole h = ⊎_elim
    (λ here. held_fits n t.corner p low high (and_from (is_corner t.corner) (holds n t.corner p) (whole 0 t (omega arith)).corner here))
    (λ later. fits_of n p rest low high (λ k d lt. whole (suc k) d (omega arith)) later)
    (or_cases (holds n t.corner p) _ h)

pub ground_fits : (m : Mosaic) → IsMosaic m → (p : Point) → IsTrue (is_ground m p) → IsTrue (fits_point p)
ground_fits m is p solid = fits_of m.side p m.tiles is.side_low is.side_high is.tiles (held m.side p m.tiles solid)
