-- The stored level and label of one point.
use Rattle.std.specs.Prelude.{◌≡◌, ◌≢◌, ℕ, ◌+◌, ◌*◌, ◌-◌, ◌<◌, ◌↔◌, ◌⊎◌, ℤ, List, slice_index, slice_index_or, slice_range}
use Rattle.lattice.specs.Corners.{Corner}
use Rattle.lattice.specs.Mosaic.{Mosaic, void}
use Rattle.labelling.specs.Blocks.{LabelledGround}
use Rattle.labelling.specs.Labelling.{OUT, NO_LABEL}
use Rattle.tile_labellings.specs.Labellings.{IsFlooded}

-- `two` has the two bytes of the value with index e
abbrev pub StandsAt : List ℕ → ℕ → List ℕ → Type 0
StandsAt bytes e two = slice_range bytes (2 * e) (2 * e + 2) ≡ two

-- either both are those of a void, or neither is, and the label is OUT or a rim number
pub record DoMarksFitAt (n : ℕ) (level : ℤ) (label : ℕ) : Type 0 where
  pub voids : (level ≡ void) ↔ (label ≡ NO_LABEL)
  pub named : label ≢ NO_LABEL → (label ≡ OUT) ⊎ (label < 4 * (n - 1))

-- a valid labelling of the corner's tile has this level and this label at index e
abbrev pub IsLabelledAt : Mosaic → Corner → ℕ → ℤ → ℕ → Type 0
IsLabelledAt m c e level label = (labelled : LabelledGround) × (IsFlooded m c labelled × ((level ≡ slice_index_or labelled.levels e void) × (label ≡ slice_index labelled.labels e)))
