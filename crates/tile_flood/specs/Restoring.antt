-- Levels and labels that may be a labelling of the block, except for the heights of a few points.
use Rattle.std.specs.Prelude.{◌≡◌, ◌≢◌, ℕ, ◌*◌, ◌<◌, ℤ, ◌<ℤ◌, ◌≤ℤ◌, Bool, true, false, IsTrue, IsFalse, List, [], ◌∷◌, Contains, length, slice_index, slice_index_or, ◌⊎◌}
use Rattle.lattice.specs.Limits.{IsSide}
use Rattle.lattice.specs.Mosaic.{void}
use Rattle.lattice.specs.Block.{is_solid, is_exit, is_beside}
use Rattle.labelling.specs.Blocks.{block_of}
use Rattle.tile_flood.specs.Flooding.{IsOwnLabel}
use Rattle.labelling.specs.Labelling.{NO_LABEL}

-- there is a level and a label for each point of a block of this side, and the indices of points fit into 32 bits
pub record AreMarks (n : ℕ) (levels : List ℤ) (labels : List ℕ) : Type 0 where
  pub side : IsSide n
  pub small : n * n < 4294967296
  pub levels_whole : length levels ≡ n * n
  pub labels_whole : length labels ≡ n * n

-- f is next to e and has its label
pub record IsAlike (n : ℕ) (labels : List ℕ) (e f : ℕ) : Type 0 where
  pub inside : f < n * n
  pub beside : IsTrue (is_beside n e f)
  pub label : slice_index labels f ≡ slice_index labels e

-- some neighbour with e's label has a lower level
abbrev pub HasLower : ℕ → List ℤ → List ℕ → ℕ → Type 0
HasLower n levels labels e = (f : ℕ) × (IsAlike n labels e f × (slice_index_or levels f void <ℤ slice_index_or levels e void))

-- f is next to e, is supported, and has e's level and label
pub record HoldsUp (n : ℕ) (levels : List ℤ) (labels : List ℕ) (stands : List Bool) (e f : ℕ) : Type 0 where
  pub alike : IsAlike n labels e f
  pub level : slice_index_or levels f void ≡ slice_index_or levels e void
  pub marked : slice_index_or stands f false ≡ true

-- the listed points of the block are supported
abbrev pub AreReached : ℕ → List Bool → List ℕ → Type 0
AreReached n stands reached = (e : ℕ) → Contains reached e → (e < n * n) × (slice_index_or stands e false ≡ true)

-- e is ground with a label and a level, and isn't higher than its level
pub record IsAbove (heights levels : List ℤ) (labels : List ℕ) (e : ℕ) : Type 0 where
  pub ground : slice_index_or heights e void ≢ void
  pub full : slice_index_or levels e void ≢ void
  pub named : slice_index labels e ≢ NO_LABEL
  pub low : slice_index_or heights e void ≤ℤ slice_index_or levels e void

-- the level of e is at most its height or the level of f
abbrev pub IsRelaxedTo : List ℤ → List ℤ → ℕ → ℕ → Type 0
IsRelaxedTo heights levels e f = (slice_index_or levels e void ≤ℤ slice_index_or heights e void) ⊎ (slice_index_or levels e void ≤ℤ slice_index_or levels f void)

-- the point's height and the neighbouring levels allow no lower level
pub record IsLeast (n : ℕ) (heights levels : List ℤ) (e : ℕ) : Type 0 where
  pub low : slice_index_or heights e void ≤ℤ slice_index_or levels e void
  pub relaxed : (x : ℕ) → x < n * n → IsTrue (is_beside n e x) → IsRelaxedTo heights levels e x

-- e is ground with a label and a level that fits
abbrev pub IsSettled : ℕ → List ℤ → List ℤ → List ℕ → ℕ → Type 0
IsSettled n heights levels labels e = IsAbove heights levels labels e × IsLeast n heights levels e

module _ (n : ℕ) (heights : List ℤ) (sinks : List ℕ) (levels : List ℤ) (labels : List ℕ) where
  -- a path at one level and with one label leads from e to a void, an outlet, or a point with a lower neighbour
  abbrev pub StandsBy : ℕ → List ℕ → Type 0
  StandsBy e [] = (is_solid (block_of n heights sinks) e ≡ false) ⊎ (IsTrue (is_exit (block_of n heights sinks) e) ⊎ HasLower n levels labels e)
  StandsBy e (f ∷ rest) = (IsAlike n labels e f × (slice_index_or levels f void ≡ slice_index_or levels e void)) × StandsBy f rest

  -- all points that are marked as supported are supported
  pub record AreStanding (stands : List Bool) : Type 0 where
    pub whole : length stands ≡ n * n
    pub each : (e : ℕ) → slice_index_or stands e false ≡ true → (rest : List ℕ) × StandsBy e rest

  -- a void has no level, and an outlet its own label; each level fits the height and the levels around it, or the point is
  -- listed
  pub record IsFitting (points : List ℕ) (e : ℕ) : Type 0 where
    pub void_point : is_solid (block_of n heights sinks) e ≡ false → (slice_index_or levels e void ≡ void) × (slice_index labels e ≡ NO_LABEL)
    pub ground : IsTrue (is_solid (block_of n heights sinks) e) → (slice_index_or levels e void ≢ void) × (slice_index labels e ≢ NO_LABEL)
    pub exit : IsTrue (is_exit (block_of n heights sinks) e) → IsOwnLabel (block_of n heights sinks) e (slice_index labels e)
    pub level : IsTrue (is_solid (block_of n heights sinks) e) → Contains points e ⊎ ((IsTrue (is_exit (block_of n heights sinks) e) → slice_index_or levels e void ≡ slice_index_or heights e void) × (IsFalse (is_exit (block_of n heights sinks) e) → IsLeast n heights levels e))

  abbrev pub AreFitting : List ℕ → ℕ → Type 0
  AreFitting points k = (e : ℕ) → e < k → IsFitting points e

-- if the marked points were supported before, they are supported afterwards
abbrev pub StandStill : ℕ → List ℤ → List ℕ → List Bool → List Bool → Type 0
StandStill n levels labels old new = (heights : List ℤ) (sinks : List ℕ) → AreStanding n heights sinks levels labels old → AreStanding n heights sinks levels labels new
