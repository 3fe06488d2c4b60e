-- The points whose level or label a mending changes, with their labels before.
use Rattle.std.specs.Prelude.{◌≡◌, ℕ, ◌+◌, ◌*◌, ◌/◌, ◌%◌, ◌<◌, ◌≤◌, ◌⊎◌, ℤ, IsTrue, List, length, slice_index, slice_index_or}
use Rattle.lattice.specs.Mosaic.{void}
use Rattle.lattice.specs.Block.{is_solid, is_beside}
use Rattle.tile_flood.specs.declared.affected.Affected.{Affected}
use Rattle.labelling.specs.Blocks.{bare_block}
use Rattle.labelling.specs.Blocks.{is_marked}

-- z is the d-th of the nine points of the window around e, row by row
abbrev pub IsInWindow : ℕ → ℕ → ℕ → ℕ → Type 0
IsInWindow n e d z = (z / n + 1 ≡ e / n + d / 3) × (z % n + 1 ≡ e % n + d % 3)

-- the list has an entry for point e with this label
abbrev pub IsListed : List Affected → ℕ → ℕ → Type 0
IsListed affected e label = (j : ℕ) × ((j < length affected) × ((d : Affected) → ((slice_index_or affected j d).point ≡ e) × ((slice_index_or affected j d).label ≡ label)))

-- the list has the number e at place k or later
abbrev pub IsAmong : List ℕ → ℕ → ℕ → Type 0
IsAmong points k e = (j : ℕ) × (k ≤ j) × (j < length points) × (slice_index_or points j e ≡ e)

-- each point whose level or label differs from the first ones is listed with its first label; all ground has a level in these
pub record AreChangesListed (n : ℕ) (heights levels₀ : List ℤ) (labels₀ : List ℕ) (levels : List ℤ) (labels : List ℕ) (affected : List Affected) : Type 0 where
  pub full : (e : ℕ) → IsTrue (is_solid (bare_block n heights) e) → IsTrue (is_marked levels₀ e)
  pub inside : (j : ℕ) (d : Affected) → j < length affected → (slice_index_or affected j d).point < n * n
  pub others : (e : ℕ) → ((slice_index_or levels e void ≡ slice_index_or levels₀ e void) × (slice_index labels e ≡ slice_index labels₀ e)) ⊎ IsListed affected e (slice_index labels₀ e)

-- if all changes were listed before, they are listed afterwards
abbrev pub StayListed : ℕ → List ℤ → List ℤ → List ℕ → List Affected → List ℤ → List ℕ → List Affected → Type 0
StayListed n heights levels labels affected levels' labels' affected' = (levels₀ : List ℤ) (labels₀ : List ℕ) → AreChangesListed n heights levels₀ labels₀ levels labels affected → AreChangesListed n heights levels₀ labels₀ levels' labels' affected'
