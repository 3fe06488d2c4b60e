-- A value between the two edges of a tile: as a test, as two inequalities and as a number of steps.
use Rattle.std.proofs.Common.{rules}
use Rattle.std.proofs.Common.{◌≡◌, ℕ, suc, ◌*◌, ◌≤◌, ℤ, pos, negsuc, ◌+ℤ◌, ◌-ℤ◌, ◌*ℤ◌, ◌≤ℤ◌, ◌<ℤ◌, int_le, nat_abs, IsTrue, IsFalse, arith, inl, inr}
use Rattle.lattice.proofs.Prelude.{and_from, and_parts, cases_Bool, ints, is_along, mul-le-mul_left}
use Rattle.lattice.proofs.IntTests.{le_true, le_from}

-- the distance of v above a lower bound
pub distance : (low v : ℤ) → low ≤ℤ v → v ≡ low +ℤ pos (nat_abs (v -ℤ low))
distance low v h = grind (arith, ints)

pub distance_le : (low v : ℤ) (m : ℕ) → low ≤ℤ v → v ≤ℤ (low +ℤ pos m) → nat_abs (v -ℤ low) ≤ m
distance_le low v m above below = let is = distance low v above in omega (arith, ints)

pub no_farther : (first value gap : ℤ) (m : ℕ) → gap ≡ value -ℤ first → gap ≤ℤ pos m → value ≤ℤ (first +ℤ pos m)
no_farther first value gap m is small = omega (arith, ints)

pub distance_is : (low v : ℤ) (k : ℕ) → v ≡ low +ℤ pos k → nat_abs (v -ℤ low) ≡ k
distance_is low v k e = grind (arith, ints)

pub parts : (m : ℕ) (corner v : ℤ) → IsTrue (is_along (pos m) corner v) → ((corner *ℤ pos m) ≤ℤ v) × (v ≤ℤ (corner *ℤ pos m +ℤ pos m))
parts m corner v e = search rules

pub from_parts : (m : ℕ) (corner v : ℤ) → (corner *ℤ pos m) ≤ℤ v → v ≤ℤ (corner *ℤ pos m +ℤ pos m) → IsTrue (is_along (pos m) corner v)
from_parts m corner v low high = search rules

pub steps : (m : ℕ) (corner v : ℤ) → IsTrue (is_along (pos m) corner v) → (k : ℕ) × ((k ≤ m) × (v ≡ corner *ℤ pos m +ℤ pos k))
steps m corner v e =
    let within = parts m corner v e in
    let is : v ≡ corner *ℤ pos m +ℤ pos (nat_abs (v -ℤ corner *ℤ pos m)) = distance (corner *ℤ pos m) v within.0 in
    (nat_abs (v -ℤ corner *ℤ pos m), (omega (arith, ints), is))

-- The value is below the first edge, or beyond the other.
pub outside_below : (m : ℕ) (corner v : ℤ) → v <ℤ (corner *ℤ pos m) → IsFalse (is_along (pos m) corner v)
outside_below m corner v low = search rules

pub outside_above : (m : ℕ) (corner v : ℤ) → (corner *ℤ pos m +ℤ pos m) <ℤ v → IsFalse (is_along (pos m) corner v)
outside_above m corner v high = search rules

-- The first edge of a tile fits, for any corner that fits its type.
pub first_within : (corner : ℤ) (m : ℕ) → negsuc 32767 ≤ℤ corner → corner ≤ℤ pos 32767 → m ≤ 3600 → (negsuc 117964799 ≤ℤ (corner *ℤ pos m)) × ((corner *ℤ pos m) ≤ℤ pos 117961200)
first_within (pos n) m low high small =
    let within : n * m ≤ n * 3600 = mul-le-mul_left n small in
    (omega (arith, ints), omega (arith, ints))
first_within (negsuc n) m low high small =
    let within : suc n * m ≤ suc n * 3600 = mul-le-mul_left (suc n) small in
    (omega (arith, ints), omega (arith, ints))
