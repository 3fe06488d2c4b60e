-- The samples of several tiles in one array, tile after tile, in any order of tiles.
use Rattle.std.specs.Prelude.{◌≡◌, ℤ, ℕ, IsTrue, ◌*◌, ◌/◌, ◌%◌, ◌<◌, ◌≤◌, pos, List, length, slice_index_or}
use Rattle.flow_d8.specs.Prelude.{Corner, is_corner, point_of, largest_side, step, Point, Dir, Terrain, Flow}
use Rattle.flow_d8.specs.Filled.{most_samples, number_of}
use Rattle.flow_d8.specs.Flows.{IsFull, AreFlows}

abbrev pub no_corner : Corner
no_corner = record { lat = pos 0; lon = pos 0 }

-- the corners are distinct
abbrev pub AreDistinct : List Corner → Type 0
AreDistinct corners = (i j : ℕ) → i < length corners → j < length corners → slice_index_or corners i no_corner ≡ slice_index_or corners j no_corner → i ≡ j

pub record Tiles : Type 0 where
  pub side : ℕ
  pub corners : List Corner

pub record AreTiles (t : Tiles) : Type 0 where
  pub side_low : 3 ≤ t.side
  pub side_high : t.side ≤ largest_side
  pub few : length t.corners * (t.side * t.side) ≤ most_samples
  pub distinct : AreDistinct t.corners
  pub corners : (i : ℕ) → i < length t.corners → IsTrue (is_corner (slice_index_or t.corners i no_corner))

abbrev pub count_of : Tiles → ℕ
count_of t = length t.corners * (t.side * t.side)

-- the point of sample k
unfoldable pub place_of : Tiles → ℕ → Point
place_of t k = point_of t.side (slice_index_or t.corners (k / (t.side * t.side)) no_corner) (k % (t.side * t.side))

-- k is a sample of this tile
abbrev pub IsInTile : Tiles → ℕ → ℕ → Type 0
IsInTile t tile k = k / (t.side * t.side) ≡ tile

-- k is a sample of the point
pub record IsSampleOf (t : Tiles) (p : Point) (k : ℕ) : Type 0 where
  pub small : k < count_of t
  pub here : place_of t k ≡ p

-- k is the first sample of its point
abbrev pub IsFirst : Tiles → ℕ → Type 0
IsFirst t k = number_of t.side t.corners (place_of t k) ≡ k

-- the statement is true for each terrain and level function with these flows
abbrev pub OnGround : Tiles → List Flow → (Terrain Point → (Point → ℤ) → Type 0) → Type 0
OnGround tiles flows Says = (t : Terrain Point) (level : Point → ℤ) → IsFull t → AreFlows t level (place_of tiles) flows → Says t level

-- the first sample of the point one step away; beyond the last sample if no tile has the point
unfoldable pub by_of : Tiles → ℕ → Dir → ℕ
by_of t k d = number_of t.side t.corners (step d (place_of t k))
