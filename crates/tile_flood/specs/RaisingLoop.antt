-- The state of the loop that raises a tile's levels.
use Rattle.std.specs.Prelude.{◌≡◌, ℕ, ◌<◌, ℤ, List, length, slice_index, slice_index_or, Some}
use Rattle.lattice.specs.Mosaic.{void}
use Rattle.labelling.specs.Raising.{raised_level}

module _ (n : ℕ) (levels : List ℤ) (labels : List ℕ) (rim : List ℤ) where
  -- the first k levels are raised
  pub record AreRaisedBelow (filled : List ℤ) (k : ℕ) : Type 0 where
    pub whole : length filled ≡ k
    pub each : (e : ℕ) → e < k → raised_level rim (slice_index_or levels e void) (slice_index labels e) ≡ Some (slice_index_or filled e void)
