-- Labellings of tiles, either flooded or stored, and when stored levels and labels fit each other, after the tiled flooding
-- of Barnes (2016). The definitions are this product's own.
use Rattle.std.specs.Prelude.{◌≡◌, ◌≢◌, ℕ, ◌*◌, ◌-◌, ◌<◌, ◌⊎◌, ℤ, Bool, List, Option, None, IfSome, IsTrue, Contains, length, slice_index, slice_index_or}
use Rattle.lattice.specs.Corners.{Corner}
use Rattle.lattice.specs.Lattice.{point_of}
use Rattle.lattice.specs.Mosaic.{Mosaic, void}
use Rattle.lattice.specs.Block.{Block, IsBlockOf, is_rim, is_sink_at, rim_number}
use Rattle.lattice.specs.Ground.{is_sink, metres}
use Rattle.lattice.specs.Height.{height_of}
use Rattle.labelling.specs.Blocks.{LabelledGround}
use Rattle.tile_flood.specs.Carried.{AreCarried}
use Rattle.labelling.specs.Labelling.{IsLabelling}
use Rattle.labelling.specs.Raising.{raised_level}
use Rattle.tile_flood.specs.Bands.{AreBands}
use Rattle.tile_labellings.specs.HeldSpills.{AreJoined}
use Rattle.tile_labellings.specs.declared.held_spills.HeldSpills.{HeldSpills}

-- a valid labelling of the corner's tile
pub record IsFlooded (m : Mosaic) (c : Corner) (labelled : LabelledGround) : Type 0 where
  pub side : labelled.side ≡ m.side
  pub valid : (b : Block) × (IsBlockOf m c b × IsLabelling b labelled.levels labelled.labels)

-- a block, its labelling, its points whose heights may have changed since, and whether these heights left each level the same
pub record FloodedGround : Type 0 where
  pub block : Block
  pub labelled : LabelledGround
  pub changed : List ℕ
  pub still : Bool

-- a valid labelling of the block that is carried to each point
pub record IsFloodOf (b : Block) (labelled : LabelledGround) : Type 0 where
  pub side : labelled.side ≡ b.side
  pub labelling : IsLabelling b labelled.levels labelled.labels
  pub carried : AreCarried b labelled.levels labelled.labels

-- the bands are those of the labelling, and the cached spills are computed from them
abbrev pub AreSpillsHeld : LabelledGround → HeldSpills → Type 0
AreSpillsHeld labelled held = AreBands labelled.side labelled.levels labelled.labels held.bands.items × AreJoined held.bands.items held.spills

-- cached spills, if there are any, are right for the labelling
abbrev pub AreHeldSpills : LabelledGround → Option HeldSpills → Type 0
AreHeldSpills labelled spills = IfSome spills (AreSpillsHeld labelled)

-- the block is that of the corner's tile, except perhaps for the heights of these points
pub record IsBlockBut (m : Mosaic) (c : Corner) (changed : List ℕ) (b : Block) : Type 0 where
  pub side : b.side ≡ m.side
  pub whole : length b.heights ≡ m.side * m.side
  pub heights : (e : ℕ) → e < m.side * m.side → (slice_index_or b.heights e void ≡ metres (height_of m (point_of m.side c e))) ⊎ Contains changed e
  pub sinks : (e : ℕ) → e < m.side * m.side → is_sink_at b e ≡ is_sink m (point_of m.side c e)

-- the block is that of the corner's tile except for changed points. If no level changed, its labelling is valid
pub record IsFloodedTile (m : Mosaic) (c : Corner) (flooded : FloodedGround) : Type 0 where
  pub block : IsBlockBut m c flooded.changed flooded.block
  pub still : IsTrue flooded.still → IsFlooded m c flooded.labelled

-- `rim` has the levels of the rim, by rim number
pub record AreLevelsOfRim (n : ℕ) (levels rim : List ℤ) : Type 0 where
  pub whole : length rim ≡ 4 * (n - 1)
  pub each : (e : ℕ) → e < n * n → IsTrue (is_rim n e) → slice_index_or rim (rim_number n e) void ≡ slice_index_or levels e void

-- levels and labels fit each other: NO_LABEL stands at void levels only; any other label is OUT or the number of a rim point
-- with a level
pub record DoMarksFit (n : ℕ) (levels : List ℤ) (labels : List ℕ) : Type 0 where
  pub rim : List ℤ
  pub of_rim : AreLevelsOfRim n levels rim
  pub each : (e : ℕ) → e < n * n → raised_level rim (slice_index_or levels e void) (slice_index labels e) ≢ None
