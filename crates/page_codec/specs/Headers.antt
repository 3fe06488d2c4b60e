-- A root as it is read: its numbers, the reserved bytes, its entries, and its sinks.
use Rattle.std.specs.Prelude.{ℕ, ◌<◌, ◌-◌, List, [], ◌∷◌, ◌++◌, length, slice_index_or}
use Rattle.std.specs.List.{concat, flat_map}
use Rattle.page_codec.specs.Numbers.{u32_bytes, u64_bytes, zeros, padded}
use Rattle.page_codec.specs.Entries.{entry_bytes}
use Rattle.page_codec.specs.Sinks.{sink_bytes}
use Rattle.page_codec.specs.Roots.{RootValue}

-- the numbers after the version, 32 bytes
unfoldable pub number_bytes : (side capacity tiles number count sinks : ℕ) → List ℕ
number_bytes side capacity tiles number count sinks = concat (
    u32_bytes side
    ∷ u32_bytes capacity
    ∷ u32_bytes tiles
    ∷ u64_bytes number
    ∷ u64_bytes count
    ∷ u32_bytes sinks
    ∷ [])

-- the bytes after the version
unfoldable pub body_bytes : RootValue → List ℕ
body_bytes r = number_bytes r.side r.capacity (length r.entries) r.number r.count (length r.sinks)
    ++ (zeros 20 ++ (padded 3840 (flat_map entry_bytes r.entries) ++ padded 192 (flat_map sink_bytes r.sinks)))

-- The item may come next: the last one so far is before it.
abbrev pub Follows : {X : Type 0} → (X → X → Type 0) → List X → X → Type 0
Follows {X} IsBefore items next = 0 < length items → (d : X) → IsBefore (slice_index_or items (length items - 1) d) next
