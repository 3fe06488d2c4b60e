-- When a flow cache is right for a mosaic, and what a height change keeps in it.
use Rattle.std.specs.Prelude.{◌≡◌, ℕ, ◌+◌, ◌*◌, ◌/◌, ◌<◌, ℤ, Bool, true, false, List, Option, Some, None, count_by, length, slice_index_or}
use Rattle.lattice.specs.Ground.{terrain}
use Rattle.lattice.specs.Mosaic.{Mosaic}
use Rattle.lattice.specs.declared.point.Point.{Point}
use Rattle.flow_d8.specs.FlowGrids.{IsGridOf}
use Rattle.flow_d8.specs.Flows.{IsFlow}
use Rattle.flow_d8.specs.LevelsAround.{OnLevels}
use Rattle.flow_d8.specs.Tiles.{Tiles, IsInTile, IsSampleOf, no_corner}
use Rattle.flow_d8.specs.declared.grid.FlowGrid.{FlowGrid}
use Rattle.water.specs.declared.flow.Flow.{Flow}
use Rattle.water.specs.declared.flow.Flow.TheVariants.{Unknown, NoGround, Outlet, Flat, To, Beside, FlatTo}
use Rattle.flow_cache.specs.LevelRanges.{AreRangesOf, AreSpared, IsByBlock}
use Rattle.flow_cache.specs.Slots.{slot_ranges, IsCovered}
use Rattle.flow_cache.specs.declared.flow_cache.FlowCache.{FlowCache}
use Rattle.flow_cache.specs.declared.flow_cache.Slot.{Slot}

-- `flow` is right for the point by each function that gives the mosaic's filled levels
abbrev pub IsFlowIn : Mosaic → Point → Flow → Type 0
IsFlowIn m p flow = OnLevels m (λ level. IsFlow (terrain m) level p flow)

-- each cached tile's ranges are right
abbrev pub AreSlotsOf : Mosaic → Tiles → List Slot → Type 0
AreSlotsOf m tiles slots = (i : ℕ) → i < length tiles.corners → AreRangesOf tiles.side m (slice_index_or tiles.corners i no_corner) (slot_ranges slots i)

-- the cache is right: its tiles are present, and known flows and ranges are those of the mosaic
pub record IsCacheOf (m : Mosaic) (cache : FlowCache) : Type 0 where
  pub grid : IsGridOf m cache.grid.tiles cache.grid.flows.items
  pub slots : AreSlotsOf m cache.grid.tiles cache.slots.items

-- this tile has the point as a sample, and knows the sample's flow
abbrev pub IsKnownIn : FlowGrid → Point → ℕ → Type 0
IsKnownIn grid p tile = (k : ℕ) × (IsInTile grid.tiles tile k × IsSampleOf grid.tiles p k × (slice_index_or grid.flows.items k Unknown ≡ Unknown → ⊥))

-- some cached tile knows the point's flow
abbrev pub IsKnownOf : FlowGrid → Point → Type 0
IsKnownOf grid p = (tile : ℕ) × ((tile < length grid.tiles.corners) × IsKnownIn grid p tile)

abbrev pub is_known : Flow → Bool
is_known Unknown = false
is_known NoGround = true
is_known Outlet = true
is_known Flat = true
is_known (To d) = true
is_known (Beside d) = true
is_known (FlatTo d) = true

abbrev pub known_count : List Flow → ℕ
known_count flows = count_by is_known flows

abbrev pub flow_cache_right : Mosaic → Option FlowCache → Type 0
flow_cache_right m None = Unit {0}
flow_cache_right m (Some cache) = IsCacheOf m cache

-- in each slot exactly the ranges that the height change can't affect remain
pub record AreSlotsSpared (was is : ℤ) (old new : List Slot) : Type 0 where
  pub whole : length new ≡ length old
  pub each : (i : ℕ) → AreSpared was is (slot_ranges old i) (slot_ranges new i)

-- the most bytes of flows that are cached: 139 MiB
abbrev pub most_flow_bytes : ℕ
most_flow_bytes = 145752064

-- the bytes of the cached flows
abbrev pub flow_bytes : Option FlowCache → ℕ
flow_bytes None = 0
flow_bytes (Some cache) = length cache.grid.flows.items

-- in the tile's first rows the samples in this block or next to it have unknown flows; all other flows are unchanged
pub record AreInvalidatedBy (slot b n rows : ℕ) (old new : List Flow) : Type 0 where
  pub whole : length new ≡ length old
  pub gone : (e : ℕ) → e < n * n → e / n < rows → IsByBlock n e b → slice_index_or new (slot * (n * n) + e) Unknown ≡ Unknown
  pub others : (k : ℕ) → ((e : ℕ) → e < n * n → k ≡ slot * (n * n) + e → IsByBlock n e b → ⊥) → slice_index_or new k Unknown ≡ slice_index_or old k Unknown
  pub fewer : (k : ℕ) → (slice_index_or new k Unknown ≡ Unknown → ⊥) → slice_index_or new k Unknown ≡ slice_index_or old k Unknown

-- after a height change the unaffected ranges remain, and each flow remains if all ranges around its sample do
pub record IsSparedFrom (was is : ℤ) (old new : FlowCache) : Type 0 where
  pub tiles : new.grid.tiles ≡ old.grid.tiles
  pub slots : AreSlotsSpared was is old.slots.items new.slots.items
  pub kept : (k : ℕ) → IsCovered new.grid.tiles new.slots.items k → slice_index_or new.grid.flows.items k Unknown ≡ slice_index_or old.grid.flows.items k Unknown

abbrev pub are_spared : ℤ → ℤ → Option FlowCache → Option FlowCache → Type 0
are_spared was is None left = left ≡ None
are_spared was is (Some cache) left = (some : FlowCache) × ((left ≡ Some some) × IsSparedFrom was is cache some)
