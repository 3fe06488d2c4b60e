-- Which flows new heights keep in the cache.
use Rattle.std.specs.Prelude.{◌≡◌, ◌⊎◌, ◌≤◌, ℕ, ◌+◌, ◌*◌, ◌/◌, ◌%◌, true, List, All, Option, Some, None, slice_index_or}
use Rattle.edits.specs.declared.edit.NewHeight.{NewHeight}
use Rattle.water.specs.declared.flow.Flow.TheVariants.{Unknown}
use Rattle.flow_cache.specs.LevelRanges.{block_of, range_at}
use Rattle.water.specs.Ranges.{is_range_spared}
use Rattle.flow_cache.specs.Slots.{slot_ranges}
use Rattle.levels.specs.Spared.{IsUnchanged}
use Rattle.flow_cache.specs.declared.flow_cache.FlowCache.{FlowCache}
use Rattle.water.specs.declared.level_range.LevelRange.{LevelRange}

-- no height moves a level of the range: each point keeps its height, or its two heights can't affect the range
abbrev pub IsRangeKept : List NewHeight → LevelRange → Type 0
IsRangeKept heights range = All (λ h. IsUnchanged h ⊎ (is_range_spared h.was h.metres range ≡ true)) heights

-- no height moves a level in the ranges at sample k and around it
abbrev pub AreRangesKept : List NewHeight → FlowCache → ℕ → Type 0
AreRangesKept heights cache k =
    let n = cache.grid.tiles.side in
    let e = k % (n * n) in
    (i j : ℕ) → e / n + 1 ≤ i → i ≤ e / n + 3 → e % n + 1 ≤ j → j ≤ e % n + 3
    → (range : LevelRange) × ((range_at (slot_ranges cache.slots.items (k / (n * n))) (block_of i j) ≡ Some range) × IsRangeKept heights range)

-- the cached tiles stay. So do the ranges that no height moves, and the known flows of samples with only such ranges around
-- them
pub record IsKeptFrom (heights : List NewHeight) (old new : FlowCache) : Type 0 where
  pub tiles : new.grid.tiles ≡ old.grid.tiles
  pub ranges : (i b : ℕ) (range : LevelRange) → range_at (slot_ranges old.slots.items i) b ≡ Some range → IsRangeKept heights range → range_at (slot_ranges new.slots.items i) b ≡ Some range
  pub flows : (k : ℕ) → AreRangesKept heights old k → slice_index_or new.grid.flows.items k Unknown ≡ slice_index_or old.grid.flows.items k Unknown

abbrev pub are_flows_kept : List NewHeight → Option FlowCache → Option FlowCache → Type 0
are_flows_kept heights None left = left ≡ None
are_flows_kept heights (Some cache) left = (some : FlowCache) × ((left ≡ Some some) × IsKeptFrom heights cache some)
