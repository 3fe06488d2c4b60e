-- Joining: links between the rim points of all tiles, and one outlet node, after the tiled flooding of Barnes (2016). The
-- definitions are this product's own.
use Rattle.std.specs.Prelude.{◌≡◌, ◌≢◌, ℕ, ◌*◌, ◌-◌, ◌<◌, ℤ, IsTrue, false, List, [], All, Contains, length, map, slice_index, slice_index_or, pos, ◌⊎◌}
use Rattle.lattice.specs.declared.point.Point.{Point}
use Rattle.lattice.specs.Corners.{Corner}
use Rattle.lattice.specs.Lattice.{point_of}
use Rattle.lattice.specs.Mosaic.{Mosaic, IsMosaic, void}
use Rattle.lattice.specs.Ground.{is_ground, is_outlet}
use Rattle.lattice.specs.Block.{IsBlockOf, is_rim, rim_number}
use Rattle.labelling.specs.Blocks.{block_of}
use Rattle.labelling.specs.Labelling.{IsLabelling, OUT, NO_LABEL}
use Rattle.labelling.specs.Spills.{AreSpills}
use Rattle.border_graph.specs.declared.summary.RimPoint.{RimPoint}
use Rattle.border_graph.specs.Summaries.{Summary}
use Rattle.border_graph.specs.Reduced.{Suffice}
use Rattle.labelling.specs.declared.spill.Spill.{Spill}

-- the rim point for a rim number that the tile doesn't have
abbrev pub nowhere : RimPoint
nowhere = record { height = void; label = NO_LABEL; outlet = false }

abbrev pub rim_point : Summary → ℕ → RimPoint
rim_point b k = slice_index_or b.rim k nowhere

abbrev pub summary_at : List Summary → ℕ → Summary
summary_at summaries t = slice_index_or summaries t (record { corner = record { lat = pos 0; lon = pos 0 }; rim = []; spills = [] })

-- the summary has each rim point of the block with its height, its label, and whether it is an outlet of the mosaic
pub record IsRimOf (m : Mosaic) (c : Corner) (heights : List ℤ) (labels : List ℕ) (b : Summary) : Type 0 where
  pub whole : length b.rim ≡ 4 * (m.side - 1)
  pub height : (e : ℕ) → e < m.side * m.side → IsTrue (is_rim m.side e) → (rim_point b (rim_number m.side e)).height ≡ slice_index_or heights e void
  pub label : (e : ℕ) → e < m.side * m.side → IsTrue (is_rim m.side e) → (rim_point b (rim_number m.side e)).label ≡ slice_index labels e
  pub outlet : (e : ℕ) → e < m.side * m.side → IsTrue (is_rim m.side e) → IsTrue (is_ground m (point_of m.side c e)) → (rim_point b (rim_number m.side e)).outlet ≡ is_outlet m (point_of m.side c e)

-- the summary is that of a valid labelling of the tile's block
pub record IsSummaryOf (m : Mosaic) (b : Summary) : Type 0 where
  pub heights : List ℤ
  pub sinks : List ℕ
  pub levels : List ℤ
  pub labels : List ℕ
  pub block : IsBlockOf m b.corner (block_of m.side heights sinks)
  pub labelling : IsLabelling (block_of m.side heights sinks) levels labels
  pub spills : AreSpills m.side heights levels labels b.spills
  pub rim : IsRimOf m b.corner heights labels b

-- the summary of a valid labelling of the tile's block, or one reduced to fewer spills over which water gets as low
pub record Summarizes (m : Mosaic) (b : Summary) : Type 0 where
  pub all : List Spill
  pub of : IsSummaryOf m (record b { spills = all })
  pub kept : Suffice (length b.rim) all b.spills

-- the list has a summary of each present tile, in the order of tiles
pub record AreSummaries (m : Mosaic) (summaries : List Summary) : Type 0 where
  pub corners : map (λ b. b.corner) summaries ≡ map (λ t. t.corner) m.tiles
  pub each : All (Summarizes m) summaries

-- the summaries are those of the tiles of some mosaic of this side
pub record AreOfMosaic (n : ℕ) (summaries : List Summary) : Type 0 where
  pub mosaic : Mosaic
  pub is : IsMosaic mosaic
  pub all : AreSummaries mosaic summaries
  pub side : n ≡ mosaic.side

-- a node: the outlet node, or a rim point by its tile's index in the list and its rim number
pub data Node : Type 0 where
  Outlet : Node
  Rim : ℕ → ℕ → Node

-- the point p has the rim number k in the corner's tile
pub record IsRimNumberOf (n : ℕ) (c : Corner) (k : ℕ) (p : Point) : Type 0 where
  pub index : ℕ
  pub small : index < n * n
  pub rim : IsTrue (is_rim n index)
  pub number : rim_number n index ≡ k
  pub point : point_of n c index ≡ p

module _ (n : ℕ) (summaries : List Summary) where
  -- tile t is in the list, and its rim point k is ground
  pub record IsThere (t k : ℕ) : Type 0 where
    pub tile : t < length summaries
    pub number : k < 4 * (n - 1)
    pub solid : (rim_point (summary_at summaries t) k).height ≢ void

  -- a link from a rim point to the one that its label names, at its height
  pub record IsLabelLink (t k label : ℕ) (level : ℤ) : Type 0 where
    pub names : (rim_point (summary_at summaries t) k).label ≡ label
    pub height : (rim_point (summary_at summaries t) k).height ≡ level

  -- a link between two labels of a tile, at the level of their spill
  abbrev pub IsSpillLink : ℕ → ℕ → ℕ → ℤ → Type 0
  IsSpillLink t a b level = Contains (summary_at summaries t).spills (record { a = a; b = b; level = level })

  -- a link from an outlet of the mosaic to the outlet node, at the outlet's height
  pub record IsOutletLink (t k : ℕ) (level : ℤ) : Type 0 where
    pub outlet : IsTrue (rim_point (summary_at summaries t) k).outlet
    pub height : (rim_point (summary_at summaries t) k).height ≡ level

  -- a link between the same point of two tiles, at the point's height
  pub record IsSharedLink (t k u l : ℕ) (level : ℤ) : Type 0 where
    pub apart : t ≢ u
    pub point : Point
    pub here : IsRimNumberOf n (summary_at summaries t).corner k point
    pub there : IsRimNumberOf n (summary_at summaries u).corner l point
    pub height : (rim_point (summary_at summaries t) k).height ≡ level

  -- a link between two rim points of one tile
  abbrev pub IsInnerLink : ℕ → ℕ → ℕ → ℤ → Type 0
  IsInnerLink t k l level = IsLabelLink t k l level ⊎ (IsLabelLink t l k level ⊎ (IsSpillLink t k l level ⊎ IsSpillLink t l k level))

  -- all links between nodes
  abbrev pub IsLink : Node → Node → ℤ → Type 0
  IsLink Outlet y level = ⊥
  IsLink (Rim t k) Outlet level = IsThere t k × (IsOutletLink t k level ⊎ (IsLabelLink t k OUT level ⊎ IsSpillLink t k OUT level))
  IsLink (Rim t k) (Rim u l) level = IsThere t k × (IsThere u l × (((t ≡ u) × IsInnerLink t k l level) ⊎ IsSharedLink t k u l level))
