-- What is cached between two questions.
use Rattle.std.specs.Prelude.{◌≡◌, ◌≤◌, ◌+◌, ◌-◌, ◌*◌, ◌^◌, ℕ, ℤ, List, All, Option, Some, None, length, sum_by}
use Rattle.lattice.specs.Corners.{Corner}
use Rattle.lattice.specs.Mosaic.{Mosaic}
use Rattle.lattice.specs.declared.point.Point.{Point}
use Rattle.catalogue.specs.declared.samples.Samples.{Ghosts}
use Rattle.labelling.specs.Blocks.{LabelledGround}
use Rattle.edits.specs.declared.edit.NewHeight.{NewHeight}
use Rattle.flow_cache.specs.FlowCaches.{are_spared, flow_bytes, flow_cache_right, IsCacheOf}
use Rattle.flow_cache.specs.declared.flow_cache.FlowCache.{FlowCache}
use Rattle.levels.specs.Invalidating.{IsLeftOf, IsNotedOf}
use Rattle.levels.specs.Holding.{IsRight, IsCurrentIn, level_of}
use Rattle.levels.specs.Reaching.{is_reached}
use Rattle.levels.specs.Room.{graph_size, labelling_bytes, rim_points, HasSide}
use Rattle.levels.specs.TileCaches.{known_of, IsSparedOf}
use Rattle.drainage.specs.FarTiles.{are_listed}
use Rattle.drainage.specs.declared.drainage_cache.DrainageCache.{DrainageCache}
use Rattle.levels.specs.declared.tile_cache.TileCache.{TileCache}

abbrev pub are_right : Mosaic → Option TileCache → Type 0
are_right m None = Unit {0}
are_right m (Some tile_cache) = IsRight m (known_of tile_cache)

-- every cached result is right for the mosaic
pub record IsHeldOf (m : Mosaic) (held : DrainageCache) : Type 0 where
  pub tile_cache : are_right m held.tile_cache
  pub flow_cache : flow_cache_right m held.flow_cache
  pub corners : are_listed m held.corners

-- the bytes of cached labellings with their blocks, of graphs (at most twelve a rim point or spill) and of levels of rim
-- points (four each)
abbrev pub tile_bytes : Option TileCache → ℕ
tile_bytes None = 0
tile_bytes (Some w) = labelling_bytes w.rim_graph.side w.labellings.held.items + 12 * sum_by graph_size w.rim_graph.loaded.items + 4 * length w.levels

-- each labelling is of a tile with the mosaic's side
abbrev pub are_of_side : Option TileCache → Type 0
are_of_side None = Unit {0}
are_of_side (Some w) = All (HasSide w.rim_graph.side) w.labellings.held.items

-- how many rim points the tiles have, each on its own
abbrev pub rim_points_of : Option TileCache → ℕ
rim_points_of None = 0
rim_points_of (Some w) = rim_points w.rim_graph.side (length w.rim_graph.corners.items)

-- at most 512 MiB are cached, and 28 bytes for each rim point beyond those of 240 tiles of 3601 samples
pub record HoldsFew (held : DrainageCache) : Type 0 where
  pub bytes : tile_bytes held.tile_cache + flow_bytes held.flow_cache ≤ 2 ^ 29 + 28 * (rim_points_of held.tile_cache - 3456000)
  pub sides : are_of_side held.tile_cache

-- `labelled` is the cached labelling of the corner's tile, and no height in the tile may have changed since
abbrev pub is_current_in : Option TileCache → Corner → LabelledGround → Type 0
is_current_in None c labelled = ⊥
is_current_in (Some tile_cache) c labelled = IsCurrentIn (known_of tile_cache) c labelled

abbrev pub IsCurrentOf : DrainageCache → Corner → LabelledGround → Type 0
IsCurrentOf held c labelled = is_current_in held.tile_cache c labelled

-- only results of tiles that the box reaches are dropped, and levels that don't satisfy `spared`
abbrev pub are_left : Point → Point → (ℤ → Type 0) → Option TileCache → Option TileCache → Type 0
are_left from to spared None left = left ≡ None
are_left from to spared (Some tile_cache) left =
    (some : TileCache) × (left ≡ Some some) × IsLeftOf (is_reached tile_cache.rim_graph.side tile_cache.rim_graph.corners.items from to) spared (known_of tile_cache) (known_of some)

abbrev pub IsLeftHeld : Point → Point → (ℤ → Type 0) → DrainageCache → DrainageCache → Type 0
IsLeftHeld from to spared held left = are_left from to spared held.tile_cache left.tile_cache

-- only levels that one of these heights may change are dropped
abbrev pub are_sparing : List NewHeight → Option TileCache → Option TileCache → Type 0
are_sparing heights None left = left ≡ None
are_sparing heights (Some tile_cache) left = (some : TileCache) × (left ≡ Some some) × IsSparedOf heights tile_cache some

pub record IsSparedHeld (heights : List NewHeight) (held left : DrainageCache) : Type 0 where
  pub tile_cache : are_sparing heights held.tile_cache left.tile_cache
  pub flow_cache : left.flow_cache ≡ held.flow_cache
  pub corners : left.corners ≡ held.corners

-- each cached level of a rim point satisfies `spared`
abbrev pub levels_pass : (ℤ → Type 0) → Option TileCache → Type 0
levels_pass spared None = Unit {0}
levels_pass spared (Some tile_cache) = (x : ℕ) (level : ℤ) → level_of tile_cache.levels x ≡ Some level → spared level

-- only summaries of tiles that the point reaches, and labellings of tiles that have it, are dropped
abbrev pub are_noted : NewHeight → Option TileCache → Option TileCache → Type 0
are_noted h None left = left ≡ None
are_noted h (Some tile_cache) left = (some : TileCache) × (left ≡ Some some) × IsNotedOf h (known_of tile_cache) (known_of some)

-- `are_noted` for the whole cache
abbrev pub IsNotedHeld : NewHeight → DrainageCache → DrainageCache → Type 0
IsNotedHeld h held left = are_noted h held.tile_cache left.tile_cache

-- the directions that this change of a height can't move stay
abbrev pub AreFlowsLeft : ℤ → ℤ → DrainageCache → DrainageCache → Type 0
AreFlowsLeft was is held left = are_spared was is held.flow_cache left.flow_cache

-- the cache is right for the mosaic of the samples, where they are honest
abbrev pub IsHeldFor : {S : Type 0} (g : Ghosts S) → S → DrainageCache → Type 0
IsHeldFor g samples held = g.is_honest samples → IsHeldOf (g.mosaic samples) held

-- if the samples are honest, known flows are right for their mosaic
abbrev pub AreFlowsFor : {S : Type 0} (g : Ghosts S) → S → FlowCache → Type 0
AreFlowsFor g samples cache = g.is_honest samples → IsCacheOf (g.mosaic samples) cache
