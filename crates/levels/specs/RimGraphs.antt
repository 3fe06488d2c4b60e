-- Graphs of tiles, each of which is loaded when water reaches its rim, after the tiled flooding of Barnes (2016). The
-- definitions are this product's own.
use Rattle.std.specs.Prelude.{◌≡◌, ℕ, ◌+◌, ◌-◌, ◌*◌, ◌^◌, ◌<◌, List, Option, Some, None, length, map, slice_index_or}
use Rattle.lattice.specs.Corners.{Corner}
use Rattle.lattice.specs.Mosaic.{Mosaic, IsMosaic}
use Rattle.catalogue.specs.Tiles.{corners_of}
use Rattle.catalogue.specs.declared.samples.Samples.{Ghosts}
use Rattle.border_graph.specs.Summaries.{Summary}
use Rattle.border_graph.specs.Joining.{summary_at, Summarizes, AreSummaries}
use Rattle.border_graph.specs.TileGraph.{TileGraph}
use Rattle.border_graph.specs.Others.{corner_at}

-- the loaded graph of tile t, if there is one
abbrev pub loaded_at : List (Option TileGraph) → ℕ → Option TileGraph
loaded_at loaded t = slice_index_or loaded t None

-- the summaries are those of all tiles of some mosaic, and the loaded tiles have theirs among them
pub record Fits (side : ℕ) (corners : List Corner) (loaded : List (Option TileGraph)) (n : ℕ) (summaries : List Summary) : Type 0 where
  pub mosaic : Mosaic
  pub is : IsMosaic mosaic
  pub all : AreSummaries mosaic summaries
  pub whole : n ≡ mosaic.side
  pub same_side : n ≡ side
  pub same_corners : map (λ b. b.corner) summaries ≡ corners
  pub agree : (t : ℕ) (ways : TileGraph) → loaded_at loaded t ≡ Some ways → (ways.side ≡ n) × (summary_at summaries t ≡ ways.summary)

-- each loaded tile has this side, its corner from the list, and a summary of its corner's tile in the mosaic
pub record AreLoaded (m : Mosaic) (side : ℕ) (corners : List Corner) (loaded : List (Option TileGraph)) : Type 0 where
  pub whole : length loaded ≡ length corners
  pub sides : (t : ℕ) (ways : TileGraph) → loaded_at loaded t ≡ Some ways → ways.side ≡ side
  pub places : (t : ℕ) (ways : TileGraph) → loaded_at loaded t ≡ Some ways → ways.summary.corner ≡ corner_at corners t
  pub summaries : (t : ℕ) (ways : TileGraph) → loaded_at loaded t ≡ Some ways → Summarizes m ways.summary

-- the list has all tiles of the mosaic, each rim point has a node number, and the loaded graphs are right
pub record AreReady (m : Mosaic) (side : ℕ) (corners : List Corner) (loaded : List (Option TileGraph)) : Type 0 where
  pub same_side : side ≡ m.side
  pub all : corners ≡ corners_of m
  pub room : 1 + length corners * (4 * (side - 1)) < 2 ^ 32
  pub tiles : AreLoaded m side corners loaded

module _ {S : Type 0} (g : Ghosts S) (a b : S) (side : ℕ) (corners : List Corner) (loaded : List (Option TileGraph)) (side' : ℕ) (corners' : List Corner) (loaded' : List (Option TileGraph)) where
  -- the mosaic and the list of tiles stay, and no loaded graph was dropped
  pub record AreKept : Type 0 where
    pub honest : g.is_honest b → g.is_honest a
    pub mosaic : g.is_honest b → g.mosaic b ≡ g.mosaic a
    pub same_side : side' ≡ side
    pub same_corners : corners' ≡ corners
    pub still : (t : ℕ) (ways : TileGraph) → loaded_at loaded t ≡ Some ways → loaded_at loaded' t ≡ Some ways
