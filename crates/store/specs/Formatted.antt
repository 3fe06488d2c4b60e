-- The formats of new stores, and how one is made (defined by this product).
use Rattle.std.specs.Prelude.{◌≡◌, ◌≢◌, ◌⊎◌, ◌↔◌, ◌<◌, ◌≤◌, ℕ, Result, Err, IfErr, IsErrOf}
use Rattle.disk.specs.Disk.{HasRisen}
use Rattle.disk.specs.declared.disk.Disk.{Ghosts}
use Rattle.lattice.specs.Limits.{most_tiles}
use Rattle.lattice.specs.declared.refusal.Refusal.{Refusal}
use Rattle.lattice.specs.declared.refusal.Refusal.TheVariants.{Device, BadSide, BadCapacity, TooSmall}
use Rattle.page_codec.specs.Formats.{Format, largest_side_of}
use Rattle.page_codec.specs.Sizes.{sectors_asked}
use Rattle.page_codec.specs.declared.version.Version.{Version}
use Rattle.page_codec.specs.declared.version.Version.TheVariants.{Two}

-- the format with this version, side and capacity
abbrev pub format_by : Version → (side capacity : ℕ) → Format
format_by version side capacity = record { version = version; side = side; capacity = capacity }

-- the format with this side and capacity, in the second version
abbrev pub format_2 : (side capacity : ℕ) → Format
format_2 side capacity = format_by Two side capacity

-- A disk was formatted in this version. Refusals: for its sizes, in this order, and then nothing was done; or Device,
-- and then the disk may contain anything.
pub record Formats {D : Type 0} (g : Ghosts D) (version : Version) (side capacity : ℕ) (old new : D) (result : Result (Unit {0}) Refusal) : Type 0 where
  pub size : g.size new ≡ g.size old
  pub bad_side : (result ≡ Err BadSide) ↔ ((side < 3) ⊎ (largest_side_of version < side))
  pub bad_capacity : (result ≡ Err BadCapacity) ↔ ((3 ≤ side) × (side ≤ largest_side_of version) × ((capacity < 1) ⊎ (most_tiles < capacity)))
  pub too_small : (result ≡ Err TooSmall)
      ↔ ((3 ≤ side) × (side ≤ largest_side_of version) × (1 ≤ capacity) × (capacity ≤ most_tiles) × (g.size old < sectors_asked (format_by version side capacity)))
  pub refused : IfErr result (λ r. (r ≡ BadSide) ⊎ ((r ≡ BadCapacity) ⊎ ((r ≡ TooSmall) ⊎ (r ≡ Device))))
  pub untouched : IfErr result (λ r. r ≢ Device → new ≡ old)
  pub later : g.failures old ≤ g.failures new
  pub device : IsErrOf result Device → HasRisen (g.failures old) (g.failures new)
  pub honest : g.honest new → g.honest old
