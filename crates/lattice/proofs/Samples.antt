-- Samples, indices and points of one tile: each index is that of one point, and each point of the tile has one index.
use Rattle.std.proofs.Common.{rules}
use Rattle.lattice.proofs.Prelude.{Corner, Holds, IsIndexOf, IsSampleAt, IsTrue, Point, ℕ, ℤ, and_from, and_parts, ap, ap₂, arith, div-mul-add, holds, index_of, ints, is_along, is_corner, mod-mul-add, mul-add-lt, nat_abs, point_of, pos, refl, subst, sym, ◌%◌, ◌*ℤ◌, ◌*◌, ◌+ℤ◌, ◌+◌, ◌-ℤ◌, ◌-◌, ◌/◌, ◌<◌, ◌↔◌, ◌∙◌, ◌≡◌, ◌≤◌}
use Rattle.std.proofs.lemmas.Grind.{rows}
use Rattle.lattice.proofs.Along.{steps, distance_is}

-- the sample `north` steps north and `east` steps east of the south-west one
pub sample_from : (n : ℕ) (c : Corner) (p : Point) (north east : ℕ) → 3 ≤ n → north ≤ n - 1 → east ≤ n - 1 →
    p.y ≡ c.lat *ℤ pos (n - 1) +ℤ pos north → p.x ≡ c.lon *ℤ pos (n - 1) +ℤ pos east → IsSampleAt n c (n - 1 - north) east p
sample_from n c p north east side north_in east_in y x = record { row = omega arith; column = omega arith; y = omega (arith, ints); x = x }

pub along_of_sample : (n : ℕ) (c : Corner) (p : Point) (i j : ℕ) → IsSampleAt n c i j p →
    IsTrue (is_along (pos (n - 1)) c.lat p.y) × IsTrue (is_along (pos (n - 1)) c.lon p.x)
along_of_sample n c p i j s = search rules

pub along_of_holds : (n : ℕ) (c : Corner) (p : Point) → Holds n c p →
    IsTrue (is_along (pos (n - 1)) c.lat p.y) × IsTrue (is_along (pos (n - 1)) c.lon p.x)
along_of_holds n c p h = along_of_sample n c p h.sample.0 h.sample.1 h.sample.2

-- the sample of a point in the tile
pub sample_of_along : (n : ℕ) (c : Corner) (p : Point) → 3 ≤ n → IsTrue (is_along (pos (n - 1)) c.lat p.y) →
    IsTrue (is_along (pos (n - 1)) c.lon p.x) → (i : ℕ) × (j : ℕ) × IsSampleAt n c i j p
sample_of_along n c p side lat lon =
    let north = steps (n - 1) c.lat p.y lat in
    let east = steps (n - 1) c.lon p.x lon in
    (n - 1 - north.0, east.0, sample_from n c p north.0 east.0 side north.1.0 east.1.0 north.1.1 east.1.1)

-- the test agrees with the definition
pub holds_is : (n : ℕ) (c : Corner) (p : Point) → 3 ≤ n → IsTrue (is_corner c) → IsTrue (holds n c p) ↔ Holds n c p
holds_is n c p side corner = (
  λ yes_held.
      let both = and_parts (is_along (pos (n - 1)) c.lat p.y) (is_along (pos (n - 1)) c.lon p.x) yes_held in
      record { corner = corner; sample = sample_of_along n c p side both.0 both.1 },
  λ h.
      let both = along_of_holds n c p h in
      and_from (is_along (pos (n - 1)) c.lat p.y) (is_along (pos (n - 1)) c.lon p.x) both.0 both.1,
)

-- A point has only one index in the tile.
pub index_is : (n : ℕ) (c : Corner) (p : Point) (e : ℕ) → IsIndexOf n c p e → index_of n c p ≡ e
index_is n c p e x =
    let s = x.sample.2.0 in
    let row : nat_abs ((c.lat *ℤ pos (n - 1) +ℤ pos (n - 1)) -ℤ p.y) ≡ x.sample.0 = distance_is p.y (c.lat *ℤ pos (n - 1) +ℤ pos (n - 1)) x.sample.0 (sym s.y) in
    let column : nat_abs (p.x -ℤ (c.lon *ℤ pos (n - 1))) ≡ x.sample.1 = distance_is (c.lon *ℤ pos (n - 1)) p.x x.sample.1 s.x in
    ap₂ (λ i j. i * n + j) row column ∙ sym x.sample.2.1

pub index_unique : (n : ℕ) (c : Corner) (p : Point) (e f : ℕ) → IsIndexOf n c p e → IsIndexOf n c p f → e ≡ f
index_unique n c p e f one other = sym (index_is n c p e one) ∙ index_is n c p f other

pub index_below : (n : ℕ) (c : Corner) (p : Point) (e : ℕ) → IsIndexOf n c p e → e < n * n
index_below n c p e x = subst (λ v. v < n * n) (sym x.sample.2.1) (mul-add-lt x.sample.0 n x.sample.1 n x.sample.2.0.row x.sample.2.0.column)

-- The tile has each point that has an index.
pub held_at : (n : ℕ) (c : Corner) (p : Point) (e : ℕ) → IsIndexOf n c p e → Holds n c p
held_at n c p e x = record { corner = x.corner; sample = (x.sample.0, x.sample.1, x.sample.2.0) }

-- Each point of the tile has an index.
pub index_of_held : (n : ℕ) (c : Corner) (p : Point) → Holds n c p → IsIndexOf n c p (index_of n c p)
index_of_held n c p h =
    let i = h.sample.0 in
    let j = h.sample.1 in
    let x : IsIndexOf n c p (i * n + j) = record { corner = h.corner; sample = (i, j, (h.sample.2, refl)) } in
    subst (IsIndexOf n c p) (sym (index_is n c p (i * n + j) x)) x

pub index_of_below : (n : ℕ) (c : Corner) (p : Point) → Holds n c p → index_of n c p < n * n
index_of_below n c p h = index_below n c p (index_of n c p) (index_of_held n c p h)

pub row_below : (n e : ℕ) → 0 < n → e < n * n → e / n < n
row_below n e some small = grind (arith, rows)

-- a row counted from the south edge
pub from_south : (z : ℤ) (m r : ℕ) → r ≤ m → z +ℤ pos (m - r) ≡ (z +ℤ pos m) -ℤ pos r
from_south z m r small = omega (arith, ints)

-- the point at an index has that index
pub index_of_point : (n : ℕ) (c : Corner) (e : ℕ) → 0 < n → IsTrue (is_corner c) → e < n * n → IsIndexOf n c (point_of n c e) e
index_of_point n c e some corner small =
    let row : e / n < n = row_below n e some small in
    let column : e % n < n = omega arith in
    record {
      corner = corner;
      sample = (e / n, e % n, (record { row = row; column = column; y = omega (arith, ints); x = refl }, omega arith));
    }

pub point_of_held : (n : ℕ) (c : Corner) (e : ℕ) → 0 < n → IsTrue (is_corner c) → e < n * n → Holds n c (point_of n c e)
point_of_held n c e some corner small = held_at n c (point_of n c e) e (index_of_point n c e some corner small)

pub index_from : (n : ℕ) (c : Corner) (p : Point) (north east : ℕ) → 3 ≤ n → IsTrue (is_corner c) → north ≤ n - 1 → east ≤ n - 1 →
    p.y ≡ c.lat *ℤ pos (n - 1) +ℤ pos north → p.x ≡ c.lon *ℤ pos (n - 1) +ℤ pos east → IsIndexOf n c p ((n - 1 - north) * n + east)
index_from n c p north east side corner north_in east_in y x = search rules

-- The index of the point at an index is that index.
pub index_of_point_is : (n : ℕ) (c : Corner) (e : ℕ) → 0 < n → IsTrue (is_corner c) → e < n * n → index_of n c (point_of n c e) ≡ e
index_of_point_is n c e some corner small = index_is n c (point_of n c e) e (index_of_point n c e some corner small)

pub point_at_index : (n : ℕ) (c : Corner) (p : Point) (e : ℕ) → IsIndexOf n c p e → point_of n c e ≡ p
point_at_index n c p e x =
    let i = x.sample.0 in
    let j = x.sample.1 in
    let s = x.sample.2.0 in
    let row : e / n ≡ i = subst (λ v. v / n ≡ i) (sym x.sample.2.1) (div-mul-add i n j s.column) in
    let column : e % n ≡ j = subst (λ v. v % n ≡ j) (sym x.sample.2.1) (mod-mul-add i n j s.column) in
    let at : p.y +ℤ pos i ≡ c.lat *ℤ pos (n - 1) +ℤ pos (n - 1) = s.y in
    let y : (c.lat *ℤ pos (n - 1) +ℤ pos (n - 1)) -ℤ pos (e / n) ≡ p.y = ap (λ v. (c.lat *ℤ pos (n - 1) +ℤ pos (n - 1)) -ℤ pos v) row ∙ omega (arith, ints) in
    let x_is : c.lon *ℤ pos (n - 1) +ℤ pos (e % n) ≡ p.x = ap (λ v. c.lon *ℤ pos (n - 1) +ℤ pos v) column ∙ sym s.x in
    same_point y x_is
  where
    same_point : {y x : ℤ} → y ≡ p.y → x ≡ p.x → ◌≡◌ {A = Point} (record { y = y; x = x }) p
    same_point a b = ap₂ (λ (u v : ℤ). record { y = u; x = v }) a b

pub point_of_index : (n : ℕ) (c : Corner) (p : Point) → Holds n c p → point_of n c (index_of n c p) ≡ p
point_of_index n c p h = point_at_index n c p (index_of n c p) (index_of_held n c p h)
