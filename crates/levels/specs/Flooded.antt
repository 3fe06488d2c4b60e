-- What a tile's labelling and summary say about its points, after the tiled flooding of Barnes (2016). The definitions are
-- this product's own.
use Rattle.std.specs.Prelude.{◌≡◌, ◌≢◌, ℕ, ◌<◌, ℤ, pos, IsTrue, List, length, slice_index, slice_index_or}
use Rattle.lattice.specs.Corners.{Corner}
use Rattle.lattice.specs.declared.point.Point.{Point}
use Rattle.lattice.specs.Lattice.{Holds, point_of}
use Rattle.lattice.specs.Mosaic.{Mosaic, void}
use Rattle.lattice.specs.Ground.{is_ground, is_outlet, metres}
use Rattle.lattice.specs.Height.{height_of}
use Rattle.labelling.specs.Blocks.{LabelledGround}
use Rattle.tile_labellings.specs.Labellings.{IsFlooded}
use Rattle.border_graph.specs.declared.summary.RimPoint.{RimPoint}
use Rattle.border_graph.specs.Joining.{nowhere}
use Rattle.lattice.specs.RimPoints.{IsRimPoint}

-- what a summary says about rim point k: its height (void without one), and the label that `labels` gives it
pub record IsRimPointIn (m : Mosaic) (c : Corner) (labels : List ℕ) (k : ℕ) (p : RimPoint) : Type 0 where
  pub index : ℕ
  pub number : IsRimPoint m.side k index
  pub height : p.height ≡ metres (height_of m (point_of m.side c index))
  pub label : p.label ≡ slice_index labels index
  pub outlet : p.outlet ≡ is_outlet m (point_of m.side c index)

-- a ground point of a tile with a valid labelling
pub record IsGroundOf (m : Mosaic) (c : Corner) (labelled : LabelledGround) (p : Point) : Type 0 where
  pub flooded : IsFlooded m c labelled
  pub held : Holds m.side c p
  pub ground : IsTrue (is_ground m p)

-- the level of some rim point isn't its height (void without one)
pub record HasOtherRimHeight (m : Mosaic) (c : Corner) (levels : List ℤ) : Type 0 where
  pub number : ℕ
  pub index : ℕ
  pub rim : IsRimPoint m.side number index
  pub differs : slice_index_or levels index void ≢ metres (height_of m (point_of m.side c index))

-- the list has the first `count` rim points, by rim number
pub record AreRimPointsIn (m : Mosaic) (c : Corner) (labels : List ℕ) (rim : List RimPoint) (count : ℕ) : Type 0 where
  pub whole : length rim ≡ count
  pub each : (k : ℕ) → k < count → IsRimPointIn m c labels k (slice_index_or rim k nowhere)

abbrev pub corner_at : List Corner → ℕ → Corner
corner_at corners k = slice_index_or corners k (record { lat = pos 0; lon = pos 0 })
