-- A mosaic has at most 180 by 360 tiles, so each of its rim points has a node number.
use Rattle.std.proofs.Common.{ℕ, ◌+◌, ◌-◌, ◌*◌, ◌^◌, ◌<◌, ◌≤◌, inl, inr, ℤ, pos, negsuc, ◌+ℤ◌, ◌*ℤ◌, ◌≤ℤ◌, ◌<ℤ◌, ◌&&◌, List, [], ◌∷◌, length, IsTrue, arith, int_le}
use Rattle.levels.proofs.Prelude.{All, All-head, All-tail, Corner, IsMosaic, IsTile, Mosaic, Tile, and_parts, corners_of, ints, is_corner, le_true, length-map, mul-le}
use Rattle.lattice.proofs.CornerOrder.{Below, before_says}
use Rattle.lattice.proofs.Rising.{AllAfter, Rising}
use Rattle.catalogue.proofs.Mosaics.{corner_of, rising_tiles}

-- the position of a corner among all corners, row by row from the south: from -32580 to 32219
abbrev place : Corner → ℤ
place c = pos 360 *ℤ c.lat +ℤ c.lon

record InRange (c : Corner) : Type 0 where
  low : negsuc 89 ≤ℤ c.lat
  high : c.lat ≤ℤ pos 89
  west : negsuc 179 ≤ℤ c.lon
  east : c.lon ≤ℤ pos 179

in_range : (c : Corner) → IsTrue (is_corner c) → InRange c
in_range c corner =
    let three = and_parts (int_le (negsuc 89) c.lat && int_le c.lat (pos 89) && int_le (negsuc 179) c.lon) (int_le c.lon (pos 179)) corner in
    let two = and_parts (int_le (negsuc 89) c.lat && int_le c.lat (pos 89)) (int_le (negsuc 179) c.lon) three.0 in
    let one = and_parts (int_le (negsuc 89) c.lat) (int_le c.lat (pos 89)) two.0 in
    record { low = le_true _ _ one.0; high = le_true _ _ one.1; west = le_true _ _ two.1; east = le_true _ _ three.1 }

place_below : (a b : Corner) → InRange a → InRange b → Below a b → place a <ℤ place b
place_below a b in_a in_b (inl south) = let west = in_b.west in let east = in_a.east in omega (arith, ints)
place_below a b in_a in_b (inr level) = let row = level.0 in let west = level.1 in omega (arith, ints)

-- bounds the number of tiles after a corner
few_after : (n : ℕ) (c : Corner) (ts : List Tile) → InRange c → All (IsTile n) ts → AllAfter corner_of c ts → Rising corner_of ts → (pos (length ts) +ℤ place c) ≤ℤ pos 32219
few_after n c [] in_c all after rising = let high = in_c.high in let east = in_c.east in omega (arith, ints)
few_after n c (t ∷ ts) in_c all after rising =
    let in_t = in_range t.corner (All-head (IsTile n) t ts all).corner in
    let rest = few_after n t.corner ts in_t (All-tail (IsTile n) t ts all) rising.0 rising.1 in
    let less = place_below c t.corner in_c in_t (before_says c t.corner after.0) in
    omega (arith, ints)

few : (n : ℕ) (ts : List Tile) → All (IsTile n) ts → Rising corner_of ts → length ts ≤ 64800
few n [] all rising = omega arith
few n (t ∷ ts) all rising =
    let in_t = in_range t.corner (All-head (IsTile n) t ts all).corner in
    let rest = few_after n t.corner ts in_t (All-tail (IsTile n) t ts all) rising.0 rising.1 in
    let low = in_t.low in
    let west = in_t.west in
    omega (arith, ints)

product : (k m : ℕ) → k ≤ 64800 → m ≤ 14400 → k * m ≤ 933120000
product k m few small = let most = mul-le k m 64800 14400 few small in omega arith

pub numbered : (m : Mosaic) → IsMosaic m → 1 + length (corners_of m) * (4 * (m.side - 1)) < 2 ^ 32
numbered m is =
    let count : length (corners_of m) ≤ 64800 = (let same = length-map m.tiles corner_of in let less = few m.side m.tiles is.tiles (rising_tiles m is) in omega arith) in
    let high = is.side_high in
    let small : 4 * (m.side - 1) ≤ 14400 = omega arith in
    let total = product (length (corners_of m)) (4 * (m.side - 1)) count small in
    omega arith
