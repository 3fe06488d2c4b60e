-- The ranges of the cached tiles.
use Rattle.std.specs.Prelude.{◌≡◌, ◌*◌, ◌/◌, ◌%◌, ℕ, List, [], Option, Some, None, slice_get, slice_index_or}
use Rattle.flow_d8.specs.Tiles.{Tiles}
use Rattle.water.specs.declared.flow.Flow.{Flow}
use Rattle.water.specs.declared.flow.Flow.TheVariants.{Unknown}
use Rattle.flow_cache.specs.LevelRanges.{AreKnownAround}
use Rattle.flow_cache.specs.declared.flow_cache.Slot.{Slot}
use Rattle.water.specs.declared.level_range.LevelRange.{LevelRange}

abbrev pub ranges_of : Option Slot → List (Option LevelRange)
ranges_of None = []
ranges_of (Some slot) = slot.ranges.items

-- the ranges of the tile in slot i
abbrev pub slot_ranges : List Slot → ℕ → List (Option LevelRange)
slot_ranges slots i = ranges_of (slice_get slots i)

-- the ranges at sample k and around it are known, so no height change can have moved one of their levels
abbrev pub IsCovered : Tiles → List Slot → ℕ → Type 0
IsCovered tiles slots k = AreKnownAround (slot_ranges slots (k / (tiles.side * tiles.side))) tiles.side (k % (tiles.side * tiles.side))

-- each sample with a known flow has known ranges at it and around it
abbrev pub AreCovered : Tiles → List Flow → List Slot → Type 0
AreCovered tiles flows slots = (k : ℕ) → (slice_index_or flows k Unknown ≡ Unknown → ⊥) → IsCovered tiles slots k
