-- Ranges of the levels in a tile and around it, by blocks of 32 rows and 32 columns, and which of them a height change keeps.
-- The definitions are this product's own.
use Rattle.std.specs.Prelude.{◌≡◌, ◌≢◌, ◌⊎◌, ℕ, ◌+◌, ◌*◌, ◌/◌, ◌%◌, ◌<◌, ◌≤◌, ℤ, pos, IsTrue, if◌then◌else◌, List, Option, Some, None, length, slice_index_or}
use Rattle.std.specs.Int.{int_max, int_min}
use Rattle.std.specs.Ordering.{int_eq}
use Rattle.lattice.specs.Corners.{Corner}
use Rattle.lattice.specs.Ground.{is_ground}
use Rattle.lattice.specs.Mosaic.{Mosaic, void}
use Rattle.lattice.specs.declared.point.Point.{Point}
use Rattle.flow_d8.specs.LevelsAround.{OnLevels}
use Rattle.flow_d8.specs.Padded.{padded_point}
use Rattle.water.specs.Ranges.{IsIn, is_range_spared}
use Rattle.water.specs.declared.level_range.LevelRange.{LevelRange}

-- the block of the place in row i and column j of the square around the tile
abbrev pub block_of : ℕ → ℕ → ℕ
block_of i j = i / 32 * 128 + j / 32

-- the range of block b; None if it is unknown
abbrev pub range_at : List (Option LevelRange) → ℕ → Option LevelRange
range_at ranges b = slice_index_or ranges b None

-- the range, widened to contain the level v; a void leaves it unchanged
abbrev pub with_level : Option LevelRange → ℤ → Option LevelRange
with_level None v = None
with_level (Some range) v = if int_eq v void then Some range else Some (record { least = int_min range.least v; greatest = int_max range.greatest v })

-- the least and greatest value of the range both satisfy `Has`, unless the range is empty
pub record HasEnds (range : LevelRange) (Has : ℤ → Type 0) : Type 0 where
  pub least : (range.least ≡ pos 32767) ⊎ Has range.least
  pub greatest : (range.greatest ≡ void) ⊎ Has range.greatest

-- one of the first `count` places, row by row, lies in block b and has the level v
abbrev pub HasLevelTo : ℕ → ℕ → List ℤ → ℕ → ℤ → Type 0
HasLevelTo width count levels b v = (i : ℕ) × (j : ℕ) × (j < width) × (i * width + j < count) × (block_of i j ≡ b) × (v ≢ void) × (slice_index_or levels (i * width + j) void ≡ v)

-- the blocks of the first `count` places have known ranges. Each range contains these places' levels and is no wider than
-- they need
pub record AreRangesTo (width count : ℕ) (levels : List ℤ) (ranges : List (Option LevelRange)) : Type 0 where
  pub known : (b : ℕ) → b < length ranges → range_at ranges b ≡ None → ⊥
  pub within : (i j : ℕ) → j < width → i * width + j < count → slice_index_or levels (i * width + j) void ≢ void → IsIn (range_at ranges (block_of i j)) (slice_index_or levels (i * width + j) void)
  pub ends : (b : ℕ) (range : LevelRange) → range_at ranges b ≡ Some range → HasEnds range (HasLevelTo width count levels b)

-- the ranges are right for the whole square, and each place has a block
pub record AreRanges (width : ℕ) (levels : List ℤ) (ranges : List (Option LevelRange)) : Type 0 where
  pub all : AreRangesTo width (width * width) levels ranges
  pub whole : (i j : ℕ) → i < width → j < width → block_of i j < length ranges

-- the range after a height change: None where a level in it may change
abbrev pub spared_of : ℤ → ℤ → Option LevelRange → Option LevelRange
spared_of was is None = None
spared_of was is (Some range) = if is_range_spared was is range then Some range else None

pub record AreSpared (was is : ℤ) (old new : List (Option LevelRange)) : Type 0 where
  pub whole : length new ≡ length old
  pub each : (b : ℕ) → range_at new b ≡ spared_of was is (range_at old b)

-- the range is known, and the height change may move a level in it
abbrev pub IsAffected : ℤ → ℤ → Option LevelRange → Type 0
IsAffected was is range = (range ≡ None → ⊥) × (spared_of was is range ≡ None)

-- a point of this row of blocks is the sample's row or next to it; the same for columns
abbrev pub IsByRow : ℕ → ℕ → Type 0
IsByRow r at = (at * 32 ≤ r + 3) × (r < at * 32 + 31)

-- a place of block b is the tile's sample e or adjacent to it
abbrev pub IsByBlock : ℕ → ℕ → ℕ → Type 0
IsByBlock n e b = IsByRow (e / n) (b / 128) × IsByRow (e % n) (b % 128)

-- the height change affects none of the ranges at the tile's sample e and around it, and all are known
abbrev pub AreSparedAround : ℤ → ℤ → List (Option LevelRange) → ℕ → ℕ → Type 0
AreSparedAround was is ranges n e = (i j : ℕ) → e / n + 1 ≤ i → i ≤ e / n + 3 → e % n + 1 ≤ j → j ≤ e % n + 3 → spared_of was is (range_at ranges (block_of i j)) ≡ None → ⊥

-- the ranges at the tile's sample e and around it are known
abbrev pub AreKnownAround : List (Option LevelRange) → ℕ → ℕ → Type 0
AreKnownAround ranges n e = (i j : ℕ) → e / n + 1 ≤ i → i ≤ e / n + 3 → e % n + 1 ≤ j → j ≤ e % n + 3 → range_at ranges (block_of i j) ≡ None → ⊥

-- the ranges at every sample of the tile and around it are known
abbrev pub AreKnownAll : ℕ → List (Option LevelRange) → Type 0
AreKnownAll n ranges = (e : ℕ) → e < n * n → AreKnownAround ranges n e

-- a ground point in the corner's tile or around it lies in block b and has the level v
abbrev pub HasLevel : ℕ → Mosaic → Corner → (Point → ℤ) → ℕ → ℤ → Type 0
HasLevel n m c level b v = (i : ℕ) × (j : ℕ) × (i < n + 4) × (j < n + 4) × (block_of i j ≡ b) × IsTrue (is_ground m (padded_point n c i j)) × (level (padded_point n c i j) ≡ v)

-- known ranges contain the levels of the blocks' ground points, and are no wider than these need; n is the tile's side
pub record AreRangesOf (n : ℕ) (m : Mosaic) (c : Corner) (ranges : List (Option LevelRange)) : Type 0 where
  pub within : OnLevels m (λ level. (i j : ℕ) → i < n + 4 → j < n + 4 → IsTrue (is_ground m (padded_point n c i j)) → IsIn (range_at ranges (block_of i j)) (level (padded_point n c i j)))
  pub ends : OnLevels m (λ level. (b : ℕ) (range : LevelRange) → range_at ranges b ≡ Some range → HasEnds range (HasLevel n m c level b))
