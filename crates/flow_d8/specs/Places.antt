-- Levels row by row, and what the levels at a place and around it show about a terrain.
use Rattle.std.specs.Prelude.{◌≡◌, ℕ, ◌+◌, ◌-◌, ◌<◌, ◌≤◌, ℤ, IsTrue, if◌then◌else◌, List, slice_index_or}
use Rattle.flow_d8.specs.Prelude.{Point, Dir, East, SouthEast, South, SouthWest, West, NorthWest, North, NorthEast, Terrain, void}
use Rattle.flow_d8.specs.declared.slopes.Best.{Best}
use Rattle.water.specs.SteepestStep.{IsSteepestOf}
use Rattle.flow_d8.specs.LevelGrid.{level_beside, IsLevelGrid}

-- the place one step away from place k, in rows of this width
abbrev pub place_by : ℕ → ℕ → Dir → ℕ
place_by width k East = k + 1
place_by width k SouthEast = k + width + 1
place_by width k South = k + width
place_by width k SouthWest = k + width - 1
place_by width k West = k - 1
place_by width k NorthWest = k - width - 1
place_by width k North = k - width
place_by width k NorthEast = k - width + 1

-- all eight places around place k exist
pub record IsInner (width count k : ℕ) : Type 0 where
  pub before : width + 1 ≤ k
  pub after : k + width + 1 < count

-- place k and the places around it have the levels of the point p and of its neighbours; void where no point is adjacent
pub record IsShown (t : Terrain Point) (level : Point → ℤ) (levels : List ℤ) (width : ℕ) (p : Point) (k : ℕ) : Type 0 where
  pub here : slice_index_or levels k void ≡ (if t.is_ground p then level p else void)
  pub around : IsTrue (t.is_ground p) → (d : Dir) → slice_index_or levels (place_by width k d) void ≡ level_beside t level p d

abbrev pub IsBestAt : List ℤ → ℕ → ℕ → Best → Type 0
IsBestAt levels width k best = (t : Terrain Point) (level : Point → ℤ) (p : Point) → IsLevelGrid t level → level p ≡ slice_index_or levels k void
    → ((d : Dir) → slice_index_or levels (place_by width k d) void ≡ level_beside t level p d) → IsSteepestOf t level p 8 best.slope best.direction
