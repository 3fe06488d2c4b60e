-- The results in a tile cache, as `Known`.
use Rattle.std.specs.Prelude.{◌≡◌, ◌↔◌, ℕ, ℤ, List, Some}
use Rattle.edits.specs.declared.edit.NewHeight.{NewHeight}
use Rattle.levels.specs.Holding.{Known, level_of}
use Rattle.levels.specs.Spared.{AreSparing}
use Rattle.levels.specs.declared.tile_cache.TileCache.{TileCache}

abbrev pub known_of : TileCache → Known
known_of w = record { side = w.rim_graph.side; corners = w.rim_graph.corners.items; loaded = w.rim_graph.loaded.items; labellings = w.labellings.held.items; levels = w.levels }

-- only levels that one of these heights may change are dropped
pub record IsSparedOf (heights : List NewHeight) (tile_cache left : TileCache) : Type 0 where
  pub rim_graph : left.rim_graph ≡ tile_cache.rim_graph
  pub labellings : left.labellings ≡ tile_cache.labellings
  pub levels : (x : ℕ) (level : ℤ) → level_of left.levels x ≡ Some level ↔ ((level_of tile_cache.levels x ≡ Some level) × AreSparing heights level)
