-- Which point each sample of a tile is (SRTM documentation: rows from north to south, samples from west to east, the
-- tile named by its south-west sample, neighbouring tiles sharing an edge; the lattice is this product's own).
use Rattle.std.specs.Prelude.{◌≡◌, ℕ, ◌+◌, ◌-◌, ◌*◌, ◌/◌, ◌%◌, ◌<◌, ℤ, pos, ◌+ℤ◌, ◌-ℤ◌, ◌*ℤ◌, Bool, IsTrue, ◌&&◌, int_le, nat_abs}
use Rattle.lattice.specs.Corners.{Corner, is_corner, is_before}
use Rattle.lattice.specs.declared.point.Point.{Point}

-- In the corner's tile of side n, the sample in row i from the north and column j from the west is the point.
pub record IsSampleAt (n : ℕ) (c : Corner) (i j : ℕ) (p : Point) : Type 0 where
  pub row : i < n
  pub column : j < n
  pub y : p.y +ℤ pos i ≡ c.lat *ℤ pos (n - 1) +ℤ pos (n - 1)
  pub x : p.x ≡ c.lon *ℤ pos (n - 1) +ℤ pos j

-- The corner's tile has the point: one of its samples is the point.
pub record Holds (n : ℕ) (c : Corner) (p : Point) : Type 0 where
  pub corner : IsTrue (is_corner c)
  pub sample : (i : ℕ) × (j : ℕ) × IsSampleAt n c i j p

-- The point has this index in the corner's tile: i * n + j for row i and column j.
pub record IsIndexOf (n : ℕ) (c : Corner) (p : Point) (e : ℕ) : Type 0 where
  pub corner : IsTrue (is_corner c)
  pub sample : (i : ℕ) × (j : ℕ) × (IsSampleAt n c i j p × (e ≡ i * n + j))

-- the point of the sample with this index
abbrev pub point_of : ℕ → Corner → ℕ → Point
point_of n c e = record {
  y = (c.lat *ℤ pos (n - 1) +ℤ pos (n - 1)) -ℤ pos (e / n);
  x = c.lon *ℤ pos (n - 1) +ℤ pos (e % n);
}

-- v is between the two edges, m apart, of a tile whose corner has this latitude (or longitude).
abbrev pub is_along : ℤ → ℤ → ℤ → Bool
is_along m corner v = int_le (corner *ℤ m) v && int_le v (corner *ℤ m +ℤ m)

-- whether the corner's tile holds the point, as a test
abbrev pub holds : ℕ → Corner → Point → Bool
holds n c p = is_along (pos (n - 1)) c.lat p.y && is_along (pos (n - 1)) c.lon p.x

-- a point's index: the rows south of the north edge, times the side, plus the columns east of the west edge
abbrev pub index_of : ℕ → Corner → Point → ℕ
index_of n c p = nat_abs ((c.lat *ℤ pos (n - 1) +ℤ pos (n - 1)) -ℤ p.y) * n + nat_abs (p.x -ℤ (c.lon *ℤ pos (n - 1)))

abbrev pub IsBefore : Corner → Corner → Type 0
IsBefore a b = IsTrue (is_before a b)
