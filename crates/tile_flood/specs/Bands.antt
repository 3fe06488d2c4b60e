-- The passages between labels, by bands of rows. A passage belongs to the row of its first point.
use Rattle.std.specs.Prelude.{◌≡◌, ℕ, ◌+◌, ◌*◌, ◌<◌, ◌≤◌, ℤ, Bool, true, false, IsTrue, List, Contains, length, slice_index, slice_index_or}
use Rattle.std.specs.Global.{Vec}
use Rattle.lattice.specs.Block.{is_linked, is_beside}
use Rattle.labelling.specs.Blocks.{LabelledGround, bare_block, is_marked}
use Rattle.labelling.specs.Passing.{IsFound, IsPassage}
use Rattle.labelling.specs.declared.spill.Spill.{Spill}
use Rattle.tile_flood.specs.declared.affected.Affected.{Affected}

module _ (n : ℕ) (levels : List ℤ) (labels : List ℕ) where
  -- p is a passage from one of the points in this range to a later one
  pub record IsPlace (from to : ℕ) (p : Spill) : Type 0 where
    pub one : ℕ
    pub other : ℕ
    pub low : from ≤ one
    pub high : one < to
    pub later : one < other
    pub link : IsTrue (is_linked (bare_block n levels) one other)
    pub passage : IsPassage levels labels one other p

  abbrev pub ArePlaces : ℕ → ℕ → List Spill → Type 0
  ArePlaces from to found = (p : Spill) → Contains found p → IsPlace from to p

  abbrev pub AreFoundFrom : ℕ → ℕ → List Spill → Type 0
  AreFoundFrom from to found = (e f : ℕ) → from ≤ e → e < to → e < f → IsFound n levels labels found e f

  -- each listed passage leads from a point of the range to a later one; for each such passage, one with its labels and at
  -- most as high is listed
  pub record AreOfPoints (from to : ℕ) (found : List Spill) : Type 0 where
    pub each : ArePlaces from to found
    pub all : AreFoundFrom from to found

  -- the list has the passages of band b, which has 32 rows
  abbrev pub AreOfBand : ℕ → List Spill → Type 0
  AreOfBand b found = AreOfPoints ((b * 32) * n) ((b * 32 + 32) * n) found

  -- the list has all bands of the block
  pub record AreBands (bands : List (Vec Spill)) : Type 0 where
    pub few : length bands ≤ n
    pub whole : n ≤ length bands * 32
    pub each : (b : ℕ) (d : Vec Spill) → b < length bands → AreOfBand b (slice_index_or bands b d).items

  -- if the affected point, or an earlier neighbour of it, is in band b, all its marked neighbours have its old label
  abbrev pub IsOffBorder : ℕ → Affected → Type 0
  IsOffBorder b a = (e z : ℕ) → (b * 32) * n ≤ e → e < (b * 32 + 32) * n → e ≤ a.point → IsTrue (is_beside n e a.point) → z < n * n → IsTrue (is_beside n a.point z) → IsTrue (is_marked levels z) → slice_index labels z ≡ a.label

  -- the first k affected points are off borders, in each band that isn't marked as changed
  abbrev pub AreOffBorders : List Bool → List Affected → ℕ → Type 0
  AreOffBorders changed affected k = (b j : ℕ) (d : Affected) → slice_index_or changed b true ≡ false → j < k → IsOffBorder b (slice_index_or affected j d)

-- the passages of a band that isn't marked as changed are still right
abbrev pub StayInBands : LabelledGround → LabelledGround → List Bool → Type 0
StayInBands old new changed = (b : ℕ) (found : List Spill) → b < length changed → slice_index_or changed b true ≡ false → AreOfBand old.side old.levels old.labels b found → AreOfBand new.side new.levels new.labels b found
