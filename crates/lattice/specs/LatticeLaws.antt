-- Laws of the lattice, about samples, points and tiles.
use Rattle.std.specs.Prelude.{◌≡◌, ℕ, ◌*◌, ◌<◌, ◌≤◌, ◌↔◌, IsTrue, List, length}
use Rattle.std.specs.List.{Contains, AllAdjacentBelow}
use Rattle.lattice.specs.Corners.{Corner, is_corner}
use Rattle.lattice.specs.Lattice.{Holds, IsIndexOf, IsBefore, point_of, holds}
use Rattle.lattice.specs.declared.point.Point.{Point}

-- each index of a tile is that of its point
abbrev pub EachIndexHasItsPoint : Type 0
EachIndexHasItsPoint = (n : ℕ) (c : Corner) (e : ℕ) → 3 ≤ n → IsTrue (is_corner c) → e < n * n → IsIndexOf n c (point_of n c e) e

-- Each index is that of one point only, and indices are less than the square of the side.
abbrev pub EachIndexIsOfOnePoint : Type 0
EachIndexIsOfOnePoint = (n : ℕ) (c : Corner) (p : Point) (e : ℕ) → IsIndexOf n c p e → (e < n * n) × (point_of n c e ≡ p)

-- A point has at most one index in a tile.
abbrev pub EachPointHasOneIndex : Type 0
EachPointHasOneIndex = (n : ℕ) (c : Corner) (p : Point) (e f : ℕ) → IsIndexOf n c p e → IsIndexOf n c p f → e ≡ f

-- A point has an index in exactly the tiles that have it.
abbrev pub HeldPointsHaveIndices : Type 0
HeldPointsHaveIndices = (n : ℕ) (c : Corner) (p : Point) → Holds n c p ↔ ((e : ℕ) × IsIndexOf n c p e)

-- A test between the edges shows whether a tile has a point.
abbrev pub EdgesTellHolders : Type 0
EdgesTellHolders = (n : ℕ) (c : Corner) (p : Point) → 3 ≤ n → IsTrue (is_corner c) → IsTrue (holds n c p) ↔ Holds n c p

-- the corners whose tile has the point, in the order of tiles
pub record AreHolders (n : ℕ) (p : Point) (corners : List Corner) : Type 0 where
  pub exactly : (c : Corner) → Contains corners c ↔ Holds n c p
  pub in_order : AllAdjacentBelow IsBefore corners (length corners)

abbrev pub AtMostFourHoldAPoint : Type 0
AtMostFourHoldAPoint = (n : ℕ) (p : Point) → 3 ≤ n → (corners : List Corner) × (AreHolders n p corners × (length corners ≤ 4))
