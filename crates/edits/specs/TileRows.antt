-- The part of a tile that is in a box, row by row (defined by this product).
use Rattle.std.specs.Prelude.{◌≡◌, ℕ, ◌+◌, ◌≤◌, ◌<◌, ℤ, pos, ◌+ℤ◌, ◌*ℤ◌, int_le, Bool, true, false}
use Rattle.lattice.specs.Corners.{Corner}
use Rattle.lattice.specs.Lattice.{point_of}
use Rattle.lattice.specs.Mosaic.{Mosaic}
use Rattle.edits.specs.Effect.{is_void_at}
use Rattle.edits.specs.declared.steps.Steps.{Steps}

-- The steps from a tile's first edge to points between the first value and the last. The other edge is m steps away.
pub record AreStepsWithin (m : ℕ) (corner first last : ℤ) (steps : Steps) : Type 0 where
  pub few : steps.first + steps.count ≤ m + 1
  pub within : (k : ℕ) → steps.first ≤ k → k < steps.first + steps.count
      → (int_le first (corner *ℤ pos m +ℤ pos k) ≡ true) × (int_le (corner *ℤ pos m +ℤ pos k) last ≡ true)
  pub all : (k : ℕ) → k ≤ m → int_le first (corner *ℤ pos m +ℤ pos k) ≡ true → int_le (corner *ℤ pos m +ℤ pos k) last ≡ true
      → (steps.first ≤ k) × (k < steps.first + steps.count)

-- The sample at the index of the corner's tile is at a void point.
abbrev pub is_void_at_index : Mosaic → Corner → ℕ → Bool
is_void_at_index m c e = is_void_at m (point_of m.side c e)

-- whether one of `count` samples of the corner's tile, from the index on, is at a void point
abbrev pub HasVoid : Mosaic → Corner → (first count : ℕ) → Bool → Type 0
HasVoid m c first count true = (k : ℕ) × ((k < count) × (is_void_at_index m c (first + k) ≡ true))
HasVoid m c first count false = (k : ℕ) → k < count → is_void_at_index m c (first + k) ≡ false
