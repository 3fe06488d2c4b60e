-- The graph of all tiles of a mosaic, with the known levels of rim points.
use Rattle.std.specs.Prelude.{◌≡◌, ◌≢◌, ℕ, ◌+◌, ◌-◌, ◌*◌, ◌^◌, ◌<◌, ℤ, List, [], length, map, slice_index_or}
use Rattle.std.specs.Int.{int_max}
use Rattle.lattice.specs.Corners.{Corner}
use Rattle.lattice.specs.Mosaic.{void}
use Rattle.border_graph.specs.Summaries.{Summary}
use Rattle.border_graph.specs.Links.{IsWayBelow, IsJoinedLevel}
use Rattle.border_graph.specs.Joining.{Rim, AreOfMosaic, IsThere, rim_point, summary_at}
use Rattle.border_graph.specs.Linking.{node_number}
use Rattle.border_graph.specs.Placed.{IsPlacedLink}
use Rattle.border_graph.specs.Reordered.{IsReordered}
use Rattle.border_graph.specs.Sharing.{AreInOrder}
use Rattle.border_graph.specs.TileGraph.{TileGraph}
use Rattle.border_graph.specs.Others.{corner_at}

-- the side of all tiles, and a summary of each
pub record MosaicGraph : Type 0 where
  pub side : ℕ
  pub summaries : List Summary

-- the same summaries, each with its spills in some order
pub record AreReordered (summaries summaries' : List Summary) : Type 0 where
  pub whole : length summaries' ≡ length summaries
  pub each : (t : ℕ) → t < length summaries → IsReordered (summary_at summaries t) (summary_at summaries' t)

-- g is the graph of these summaries, which are in the order of tiles
pub record IsGraphOf (n : ℕ) (summaries : List Summary) (g : MosaicGraph) : Type 0 where
  pub side : g.side ≡ n
  pub all : AreReordered summaries g.summaries
  pub order : AreInOrder summaries

-- the level is the node's least level, if the graph's summaries are those of a mosaic
abbrev pub IsFound : MosaicGraph → ℕ → ℤ → Type 0
IsFound g x level = (n : ℕ) (summaries : List Summary) → IsGraphOf n summaries g → AreOfMosaic n summaries → IsJoinedLevel (IsPlacedLink n summaries) 0 x level

-- no path leads from the node to an outlet
abbrev pub LeadsNowhereFrom : MosaicGraph → ℕ → Type 0
LeadsNowhereFrom g x = (n : ℕ) (summaries : List Summary) → IsGraphOf n summaries g → (level : ℤ) (rest : List ℕ) → IsWayBelow (IsPlacedLink n summaries) 0 level x rest → ⊥

abbrev pub graph_of : ℕ → List TileGraph → MosaicGraph
graph_of side graphs = record { side = side; summaries = map (λ t. t.summary) graphs }

-- the lists have a graph of each corner's tile, a number for each rim point, and the known levels
pub record IsWhole (side : ℕ) (corners : List Corner) (graphs : List TileGraph) (levels : List ℤ) : Type 0 where
  pub whole : length graphs ≡ length corners
  pub sides : (t : ℕ) (d : TileGraph) → t < length graphs → (slice_index_or graphs t d).side ≡ side
  pub places : (t : ℕ) → t < length corners → (summary_at (graph_of side graphs).summaries t).corner ≡ corner_at corners t
  pub room : 1 + length corners * (4 * (side - 1)) < 2 ^ 32
  pub found : (x : ℕ) → slice_index_or levels x void ≢ void → IsFound (graph_of side graphs) x (slice_index_or levels x void)

module _ (g : MosaicGraph) where
  -- v is the level of rim point k of tile t, which isn't below its height; void for a void
  pub record IsLevelAt (t k : ℕ) (v : ℤ) : Type 0 where
    pub none : (rim_point (summary_at g.summaries t) k).height ≡ void → v ≡ void
    pub some : (rim_point (summary_at g.summaries t) k).height ≢ void → v ≢ void
    pub found : (rim_point (summary_at g.summaries t) k).height ≢ void → (level : ℤ) × (IsFound g (node_number g.side (Rim t k)) level × (v ≡ int_max level (rim_point (summary_at g.summaries t) k).height))

  -- the list has the levels of the first `count` rim points of tile t
  abbrev pub AreLevelsAt : ℕ → List ℤ → ℕ → Type 0
  AreLevelsAt t rim count = (k : ℕ) → k < count → IsLevelAt t k (slice_index_or rim k void)

  pub record IsRimAt (t : ℕ) (rim : List ℤ) : Type 0 where
    pub whole : length rim ≡ 4 * (g.side - 1)
    pub each : AreLevelsAt t rim (4 * (g.side - 1))

  -- no path leads from some ground rim point to an outlet
  pub record IsCutOff : Type 0 where
    pub tile : ℕ
    pub number : ℕ
    pub there : IsThere g.side g.summaries tile number
    pub no_way : LeadsNowhereFrom g (node_number g.side (Rim tile number))

  -- the list has the levels of the rims of the first tiles
  abbrev pub AreRimsAt : List (List ℤ) → ℕ → Type 0
  AreRimsAt rims tiles = (t : ℕ) → t < tiles → IsRimAt t (slice_index_or rims t [])
