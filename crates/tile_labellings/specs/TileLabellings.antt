-- A cached labelling of a tile.
use Rattle.std.specs.Prelude.{◌≡◌, ◌≢◌, ◌⊎◌, ℕ, ℤ, ◌*◌, ◌<◌, ◌<ℤ◌, ◌≤ℤ◌, Bool, true, false, IsTrue, List, [], length, nat_lt, slice_index_or}
use Rattle.lattice.specs.Corners.{Corner}
use Rattle.lattice.specs.Ground.{is_sink}
use Rattle.lattice.specs.Height.{height_of}
use Rattle.lattice.specs.Lattice.{point_of}
use Rattle.lattice.specs.Mosaic.{Mosaic, void}
use Rattle.lattice.specs.declared.height.Height.TheVariants.{At}
use Rattle.lattice.specs.declared.point.Point.{Point}
use Rattle.labelling.specs.Blocks.{LabelledGround}
use Rattle.tile_labellings.specs.Labellings.{IsFlooded, IsFloodedTile}
use Rattle.tile_labellings.specs.declared.tile_labelling.TileLabelling.{TileLabelling}
use Rattle.tile_labellings.specs.declared.tile_labelling.TileLabelling.TheVariants.{Kept, Flooded}

abbrev pub labelled_of : TileLabelling → LabelledGround
labelled_of (Kept labelled) = labelled
labelled_of (Flooded flooded) = flooded.labelled

abbrev pub is_flooded : TileLabelling → Bool
is_flooded (Kept labelled) = false
is_flooded (Flooded flooded) = true

-- the most points of a block that may change before its labelling is dropped
abbrev pub most_changed : ℕ
most_changed = 64

-- a flooded block that can record one more changed point
abbrev pub can_note : TileLabelling → Bool
can_note (Kept labelled) = false
can_note (Flooded flooded) = nat_lt (length flooded.changed) most_changed

-- no height can have changed since the labelling was computed
abbrev pub IsCurrent : TileLabelling → Type 0
IsCurrent (Kept labelled) = Unit {0}
IsCurrent (Flooded flooded) = flooded.changed ≡ []

-- a valid labelling of the corner's tile, or one of its block before heights changed
abbrev pub IsTileLabelling : Mosaic → Corner → TileLabelling → Type 0
IsTileLabelling m c (Kept labelled) = IsFlooded m c labelled
IsTileLabelling m c (Flooded flooded) = IsFloodedTile m c flooded

-- no level and no label can have changed since the labelling was computed
abbrev pub IsStill : TileLabelling → Type 0
IsStill (Kept labelled) = Unit {0}
IsStill (Flooded flooded) = IsTrue flooded.still

-- the point with this index lay below its level, and doesn't rise above it
pub record IsBelowLevel (levels : List ℤ) (e : ℕ) (was is : ℤ) : Type 0 where
  pub inside : e < length levels
  pub below : was <ℤ slice_index_or levels e void
  pub full : is ≢ void
  pub low : is ≤ℤ slice_index_or levels e void

-- the point lay below its level and doesn't rise above it, so levels and labels stay
abbrev pub IsBelow : TileLabelling → ℕ → ℤ → ℤ → Type 0
IsBelow labelling e was is = IsStill labelling × IsBelowLevel (labelled_of labelling).levels e was is

-- of all points of the corner's tile, only the one with index e may have another height
pub record DifferAt (c : Corner) (e : ℕ) (m new : Mosaic) : Type 0 where
  pub side : new.side ≡ m.side
  pub heights : (z : ℕ) → z < m.side * m.side → z ≢ e → height_of new (point_of m.side c z) ≡ height_of m (point_of m.side c z)
  pub sinks : (z : ℕ) → z < m.side * m.side → is_sink new (point_of m.side c z) ≡ is_sink m (point_of m.side c z)

-- the point has its old height, or its height went from `was` to `is`
abbrev pub IsSetFrom : Mosaic → Mosaic → Point → ℤ → ℤ → Type 0
IsSetFrom m new p was is = (height_of new p ≡ height_of m p) ⊎ ((height_of m p ≡ At was) × (is ≢ void → height_of new p ≡ At is))
