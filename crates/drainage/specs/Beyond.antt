-- What changes leave in the cache: all results for tiles that they don't reach.
use Rattle.std.specs.Prelude.{◌≡◌, ◌↔◌, ◌⊎◌, ℕ, ℤ, Bool, true, false, List, All, Option, Some, None}
use Rattle.lattice.specs.declared.point.Point.{Point}
use Rattle.tile_labellings.specs.declared.tile_labelling.TileLabelling.{TileLabelling}
use Rattle.edits.specs.declared.edit.Edit.{Edit}
use Rattle.edits.specs.declared.edit.Edit.TheVariants.{Add, Drop, Heights, Voids, Sink, Unsink}
use Rattle.edits.specs.declared.edit.NewHeight.{NewHeight}
use Rattle.drainage.specs.Between.{IsLeftHeld}
use Rattle.drainage.specs.FarTiles.{IsKeptOff}
use Rattle.drainage.specs.Sinks.{highest_level, is_known_down}
use Rattle.levels.specs.Holding.{IsHeldAt, level_of}
use Rattle.drainage.specs.FlowsKept.{are_flows_kept}
use Rattle.levels.specs.Reaching.{is_reached}
use Rattle.levels.specs.RimGraphs.{loaded_at}
use Rattle.levels.specs.Spared.{AreSparing, IsNoHigher, IsUnchanged, one_lower}
use Rattle.drainage.specs.declared.drainage_cache.DrainageCache.{DrainageCache}
use Rattle.levels.specs.declared.tile_cache.TileCache.{TileCache}

-- the cached summary and labellings of the tile with number t stay
pub record IsKeptAt (t : ℕ) (tile_cache left : TileCache) : Type 0 where
  pub same_side : left.rim_graph.side ≡ tile_cache.rim_graph.side
  pub same_corners : left.rim_graph.corners.items ≡ tile_cache.rim_graph.corners.items
  pub loaded : loaded_at left.rim_graph.loaded.items t ≡ loaded_at tile_cache.rim_graph.loaded.items t
  pub labellings : (labelling : TileLabelling) → IsHeldAt left.labellings.held.items t labelling ↔ IsHeldAt tile_cache.labellings.held.items t labelling

-- results for tiles that the point doesn't reach stay
abbrev pub are_kept_from : Point → Option TileCache → Option TileCache → Type 0
are_kept_from p None left = Unit {0}
are_kept_from p (Some tile_cache) left = (t : ℕ) → is_reached tile_cache.rim_graph.side tile_cache.rim_graph.corners.items p p t ≡ false → (some : TileCache) × (left ≡ Some some) × IsKeptAt t tile_cache some

-- results for tiles that no point with a new height reaches stay
abbrev pub are_kept_beyond : List NewHeight → Option TileCache → Option TileCache → Type 0
are_kept_beyond heights None left = Unit {0}
are_kept_beyond heights (Some tile_cache) left =
    (t : ℕ) → All (λ h. IsUnchanged h ⊎ (is_reached tile_cache.rim_graph.side tile_cache.rim_graph.corners.items h.point h.point t ≡ false)) heights → (some : TileCache) × (left ≡ Some some) × IsKeptAt t tile_cache some

abbrev pub IsKeptBeyondHeights : List NewHeight → DrainageCache → DrainageCache → Type 0
IsKeptBeyondHeights heights held left = are_kept_beyond heights held.tile_cache left.tile_cache

-- levels of rim points that none of these new heights can change stay
abbrev pub are_levels_kept : List NewHeight → Option TileCache → Option TileCache → Type 0
are_levels_kept heights None left = Unit {0}
are_levels_kept heights (Some tile_cache) left =
    (x : ℕ) (level : ℤ) → level_of tile_cache.levels x ≡ Some level → AreSparing heights level → (some : TileCache) × (left ≡ Some some) × (level_of some.levels x ≡ Some level)

abbrev pub AreLevelsKept : List NewHeight → DrainageCache → DrainageCache → Type 0
AreLevelsKept heights held left = are_levels_kept heights held.tile_cache left.tile_cache

-- directions stay in blocks whose levels no new height moves: they are all below both heights of each point, or all above
-- both
abbrev pub AreFlowsKept : List NewHeight → DrainageCache → DrainageCache → Type 0
AreFlowsKept heights held left = are_flows_kept heights held.flow_cache left.flow_cache

-- if each point keeps its height, all results stay
abbrev pub IsKeptUnchanged : List NewHeight → DrainageCache → DrainageCache → Type 0
IsKeptUnchanged heights held left = All IsUnchanged heights → left ≡ held

-- results stay, except those of tiles that the point reaches, and levels higher than this one with all flows
abbrev pub is_left_by : Bool → Point → Option ℤ → DrainageCache → DrainageCache → Type 0
is_left_by true p most held left = IsLeftHeld p p (IsNoHigher (Some highest_level)) held left × (left.flow_cache ≡ held.flow_cache)
is_left_by false p most held left = IsLeftHeld p p (IsNoHigher most) held left

-- the same, where all levels and flows stay if the point is known to drain down
abbrev pub IsLeftBySink : Point → Option ℤ → DrainageCache → DrainageCache → Type 0
IsLeftBySink p most held left = is_left_by (is_known_down held.flow_cache p) p most held left

-- Results for tiles that the edit doesn't reach stay, where no tile comes or goes. When a sink comes, levels no higher than its
-- ground stay too, and when one goes, levels below it, or all where its point is known to drain down. When a tile comes or goes
-- far from all others, other directions stay.
abbrev pub IsKeptBeyondEdit : Edit → DrainageCache → DrainageCache → Type 0
IsKeptBeyondEdit (Heights heights) held left = IsKeptBeyondHeights heights.items held left × AreLevelsKept heights.items held left × AreFlowsKept heights.items held left × IsKeptUnchanged heights.items held left
IsKeptBeyondEdit (Voids from to h tiles) held left = IsLeftHeld from to (IsNoHigher None) held left
IsKeptBeyondEdit (Sink p h) held left = IsLeftBySink p (Some h) held left
IsKeptBeyondEdit (Unsink p h) held left = IsLeftBySink p (one_lower h) held left
IsKeptBeyondEdit (Add c bytes) held left = IsKeptOff c held left
IsKeptBeyondEdit (Drop c) held left = IsKeptOff c held left
