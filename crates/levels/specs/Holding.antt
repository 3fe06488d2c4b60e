-- Cached results about a mosaic's tiles. The definitions are this product's own.
use Rattle.std.specs.Prelude.{◌≡◌, ℕ, ◌<◌, ℤ, List, Option, Some, None, Ok, Err, IsTrue, Contains, length, slice_index_or}
use Rattle.lattice.specs.Lattice.{point_of}
use Rattle.lattice.specs.Mosaic.{Mosaic}
use Rattle.lattice.specs.Ground.{is_ground, terrain}
use Rattle.lattice.specs.RimPoints.{IsRimPoint}
use Rattle.lattice.specs.Terrain.{IsFilledLevel}
use Rattle.lattice.specs.declared.refusal.Refusal.{Refusal}
use Rattle.catalogue.specs.Asked.{Asked}
use Rattle.catalogue.specs.Endings.{ends_any}
use Rattle.catalogue.specs.Readers.{OnlyReads}
use Rattle.catalogue.specs.declared.samples.Samples.{Ghosts}
use Rattle.border_graph.specs.Joining.{Rim}
use Rattle.border_graph.specs.Links.{IsJoinedLevel}
use Rattle.border_graph.specs.Linking.{node_number}
use Rattle.border_graph.specs.Summaries.{Summary}
use Rattle.labelling.specs.Blocks.{LabelledGround}
use Rattle.tile_labellings.specs.TileLabellings.{labelled_of, IsCurrent, IsTileLabelling}
use Rattle.tile_labellings.specs.declared.tile_labelling.TileLabelling.{TileLabelling}
use Rattle.lattice.specs.Corners.{Corner}
use Rattle.border_graph.specs.Others.{corner_at}
use Rattle.border_graph.specs.Placed.{IsPlacedLink}
use Rattle.border_graph.specs.TileGraph.{TileGraph}
use Rattle.levels.specs.RimGraphs.{Fits, AreReady, AreKept}
use Rattle.levels.specs.declared.labelling_cache.HeldLabelling.{HeldLabelling}

-- the side, the corners of all tiles in order, the graphs that are loaded, the cached labellings, and the levels of rim
-- points by node number
pub record Known : Type 0 where
  pub side : ℕ
  pub corners : List Corner
  pub loaded : List (Option TileGraph)
  pub labellings : List HeldLabelling
  pub levels : List (Option ℤ)

-- the list has this labelling for tile t
abbrev pub IsHeldAt : List HeldLabelling → ℕ → TileLabelling → Type 0
IsHeldAt labellings t labelling = Contains labellings (record { place = t; labelling = labelling })

-- each cached labelling of tile t is a labelling of the corner's tile
abbrev pub IsEntered : Mosaic → Corner → List HeldLabelling → ℕ → Type 0
IsEntered m c labellings t = (labelling : TileLabelling) → IsHeldAt labellings t labelling → IsTileLabelling m c labelling

-- t is the first place of the corner in the list
abbrev pub IsPlaceOf : List Corner → Corner → ℕ → Type 0
IsPlaceOf corners c t = (t < length corners) × (corner_at corners t ≡ c) × ((u : ℕ) → u < t → corner_at corners u ≡ c → ⊥)

-- `labelled` is the cached labelling of the corner's tile, and no height in the tile may have changed since
abbrev pub IsCurrentIn : Known → Corner → LabelledGround → Type 0
IsCurrentIn known c labelled = (t : ℕ) × (labelling : TileLabelling) × IsPlaceOf known.corners c t × IsHeldAt known.labellings t labelling × IsCurrent labelling × (labelled ≡ labelled_of labelling)

-- the cached level of node x, if there is one
abbrev pub level_of : List (Option ℤ) → ℕ → Option ℤ
level_of levels x = slice_index_or levels x None

-- node x is a ground point on a tile's rim, and `level` is its filled level
pub record IsRimLevel (m : Mosaic) (corners : List Corner) (x : ℕ) (level : ℤ) : Type 0 where
  pub tile : ℕ
  pub number : ℕ
  pub index : ℕ
  pub node : x ≡ node_number m.side (Rim tile number)
  pub place : tile < length corners
  pub rim : IsRimPoint m.side number index
  pub on_ground : IsTrue (is_ground m (point_of m.side (corner_at corners tile) index))
  pub filled : IsFilledLevel (terrain m) (point_of m.side (corner_at corners tile) index) level

-- the rim point with this number in tile t is ground
pub record IsGroundNode (m : Mosaic) (corners : List Corner) (t number : ℕ) : Type 0 where
  pub index : ℕ
  pub rim : IsRimPoint m.side number index
  pub on_ground : IsTrue (is_ground m (point_of m.side (corner_at corners t) index))

-- the cached results are right for the mosaic
pub record IsRight (m : Mosaic) (known : Known) : Type 0 where
  pub ready : AreReady m known.side known.corners known.loaded
  pub labellings : (t : ℕ) → IsEntered m (corner_at known.corners t) known.labellings t
  pub levels : (x : ℕ) (level : ℤ) → level_of known.levels x ≡ Some level → IsRimLevel m known.corners x level

-- the summaries of all tiles agree with the loaded graphs and with the known levels
pub record Agrees (known : Known) (n : ℕ) (summaries : List Summary) : Type 0 where
  pub fits : Fits known.side known.corners known.loaded n summaries
  pub knows : (x : ℕ) (level : ℤ) → level_of known.levels x ≡ Some level → IsJoinedLevel (IsPlacedLink n summaries) 0 x level

module _ {S : Type 0} (g : Ghosts S) (a b : S) (known known' : Known) where
  -- loading dropped no graph, and results that were right before it are right after it
  pub record IsGrown : Type 0 where
    pub kept : AreKept g a b known.side known.corners known.loaded known'.side known'.corners known'.loaded
    pub levels : known'.levels ≡ known.levels
    pub right : g.is_honest b → IsRight (g.mosaic a) known → IsRight (g.mosaic a) known'

  -- the results have grown, and no read was refused
  pub record IsCarried : Type 0 where
    pub grown : IsGrown
    pub reads : OnlyReads {T = Unit {0}} g a b (Ok tt)

  -- the results have grown until a call was refused with r. If they were right, this is a refusal that a query over samples
  -- may have
  pub record IsRefused (r : Refusal) : Type 0 where
    pub grown : IsGrown
    pub cause : IsTrue (ends_any r)
    pub asked : (g.is_honest b → IsRight (g.mosaic a) known) → Asked {T = Unit {0}} g a b (Err r)
