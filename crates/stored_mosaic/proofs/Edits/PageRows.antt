-- Pages without a row of the box.
use Rattle.std.proofs.Common.{◌≡◌, ℕ, zero, suc, ◌-◌, ◌*◌, ◌/◌, ◌<◌, ◌≤◌, ℤ, pos, ◌+ℤ◌, ◌-ℤ◌, ◌*ℤ◌, ◌≤ℤ◌, false, arith, ◌&&◌, int_le}
use Rattle.stored_mosaic.proofs.Prelude.{Corner, Point, and_from, and_parts, both_ways, false_from_ne_true, ints, is_in_box, point_of}
use Rattle.std.proofs.lemmas.Nat.{le-div}
use Rattle.std.proofs.Math.Nat.{div-mul-le_self}
use Rattle.lattice.proofs.IntTests.{le_true, le_from}

some_edge : (n : ℕ) → 0 < n * n → 0 < n
some_edge zero some = absurd (omega (arith, some))
some_edge (suc n) some = omega arith

row_by : (n e f : ℕ) → 0 < n → e ≤ f → e / n ≤ f / n
row_by n e f some below = le-div (e / n) f n some (let part = div-mul-le_self e n in omega (arith, part, below))

south_of : (b v : ℤ) (i j : ℕ) → i ≤ j → v ≤ℤ (b -ℤ pos j) → v ≤ℤ (b -ℤ pos i)
south_of b v i j below le = omega (arith, ints, below, le)

north_of : (b v : ℤ) (i j : ℕ) → i ≤ j → (b -ℤ pos i) ≤ℤ v → (b -ℤ pos j) ≤ℤ v
north_of b v i j below le = omega (arith, ints, below, le)

pub passed_over : (n : ℕ) (c : Corner) (from to : Point) (first last e : ℕ) → 0 < n * n → first ≤ e → e ≤ last → (int_le from.y (point_of n c first).y && int_le (point_of n c last).y to.y) ≡ false
    → is_in_box from to (point_of n c e) ≡ false
passed_over n c from to first last e some begins ends off = false_from_ne_true (is_in_box from to p) (λ within.
    let three = and_parts (int_le from.y p.y && int_le p.y to.y && int_le from.x p.x) (int_le p.x to.x) within in
    let two = and_parts (int_le from.y p.y && int_le p.y to.y) (int_le from.x p.x) three.0 in
    let one = and_parts (int_le from.y p.y) (int_le p.y to.y) two.0 in
    both_ways (int_le from.y (point_of n c first).y && int_le (point_of n c last).y to.y) off
    (and_from (int_le from.y (point_of n c first).y) (int_le (point_of n c last).y to.y)
    (le_from from.y (point_of n c first).y (south_of top from.y (first / n) (e / n) (row_by n first e edge begins) (le_true from.y p.y one.0)))
    (le_from (point_of n c last).y to.y (north_of top to.y (e / n) (last / n) (row_by n e last edge ends) (le_true p.y to.y one.1)))))
  where
    p : Point
    p = point_of n c e

    edge : 0 < n
    edge = some_edge n some

    top : ℤ
    top = c.lat *ℤ pos (n - 1) +ℤ pos (n - 1)
