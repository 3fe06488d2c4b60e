use Rattle.flow_d8.proofs.Prelude.{Corner, IsTrue, ℤ, and_parts, ap, ap₂, arith, east_of_tile, int_le, ints, is_corner, is_present, le_true, mag, negsuc, north_of_tile, of_z, pos, south_of_tile, to_z, to_z-of_z, w16, west_of_tile, ◌&&◌, ◌+ℤ◌, ◌-ℤ◌, ◌<◌, ◌∙◌, ◌≡◌, ◌≤ℤ◌}
use Rattle.flow_d8.proofs.padding.sides.Goals as goal

small : (a : ℤ) → negsuc 1000 ≤ℤ a → a ≤ℤ pos 1000 → mag a < 32768
small a low high = grind (arith, ints)

-- a small number is the same after conversion to 16 bits and back
kept : (a : ℤ) → negsuc 1000 ≤ℤ a → a ≤ℤ pos 1000 → to_z w16 (of_z w16 a) ≡ a
kept a low high = to_z-of_z w16 a (record { sfits = small a low high })

record Bounds (c : Corner) : Type 0 where
  south : negsuc 89 ≤ℤ c.lat
  north : c.lat ≤ℤ pos 89
  west : negsuc 179 ≤ℤ c.lon
  east : c.lon ≤ℤ pos 179

bounds : (c : Corner) → IsTrue (is_corner c) → Bounds c
bounds c is =
    let three = and_parts (int_le (negsuc 89) c.lat && int_le c.lat (pos 89) && int_le (negsuc 179) c.lon) (int_le c.lon (pos 179)) is in
    let two = and_parts (int_le (negsuc 89) c.lat && int_le c.lat (pos 89)) (int_le (negsuc 179) c.lon) three.0 in
    let one = and_parts (int_le (negsuc 89) c.lat) (int_le c.lat (pos 89)) two.0 in
    record { south = le_true (negsuc 89) c.lat one.0; north = le_true c.lat (pos 89) one.1; west = le_true (negsuc 179) c.lon two.1; east = le_true c.lon (pos 179) three.1 }

-- a degree increased by one is the same after conversion to 16 bits and back
on : (a : ℤ) → negsuc 179 ≤ℤ a → a ≤ℤ pos 179 → to_z w16 (of_z w16 (to_z w16 (of_z w16 a) +ℤ pos 1)) ≡ a +ℤ pos 1
on a low high = ap (λ v. to_z w16 (of_z w16 (v +ℤ pos 1))) (kept a (omega (arith, ints)) (omega (arith, ints))) ∙ kept (a +ℤ pos 1) (omega (arith, ints)) (omega (arith, ints))

back : (a : ℤ) → negsuc 179 ≤ℤ a → a ≤ℤ pos 179 → to_z w16 (of_z w16 (to_z w16 (of_z w16 a) -ℤ pos 1)) ≡ a -ℤ pos 1
back a low high = ap (λ v. to_z w16 (of_z w16 (v -ℤ pos 1))) (kept a (omega (arith, ints)) (omega (arith, ints))) ∙ kept (a -ℤ pos 1) (omega (arith, ints)) (omega (arith, ints))

still : (a : ℤ) → negsuc 179 ≤ℤ a → a ≤ℤ pos 179 → to_z w16 (of_z w16 a) ≡ a
still a low high = kept a (omega (arith, ints)) (omega (arith, ints))

abbrev corner_at : ℤ → ℤ → Corner
corner_at a b = record { lat = a; lon = b }

pub returns : goal.returns
returns c m levels sinks is of =
    let a = c.corner.inside.lat in
    let o = c.corner.inside.lon in
    let v = c.corner.view_is in
    let b = bounds (corner_at a o) c.corner.invariant in
    let low : negsuc 179 ≤ℤ a = omega (arith, ints, b.south) in
    let high : a ≤ℤ pos 179 = omega (arith, ints, b.north) in
    record {
      north = c.is_present_at.ensures m levels sinks is of ∙ ap (is_present m) (ap₂ corner_at (on a low high) (still o b.west b.east) ∙ ap north_of_tile v);
      east = c.is_present_at-2.ensures m levels sinks is of ∙ ap (is_present m) (ap₂ corner_at (still a low high) (on o b.west b.east) ∙ ap east_of_tile v);
      south = c.is_present_at-3.ensures m levels sinks is of ∙ ap (is_present m) (ap₂ corner_at (back a low high) (still o b.west b.east) ∙ ap south_of_tile v);
      west = c.is_present_at-4.ensures m levels sinks is of ∙ ap (is_present m) (ap₂ corner_at (still a low high) (back o b.west b.east) ∙ ap west_of_tile v);
    }
