-- Samples read from a mosaic, and the refusals of a read (defined by this product).
use Rattle.std.specs.Prelude.{◌≡◌, ℕ, ◌+◌, ◌≤◌, min, ℤ, List, length, slice_get, slice_range, Some, IsSomeAnd}
use Rattle.lattice.specs.Corners.{Corner}
use Rattle.lattice.specs.Mosaic.{Mosaic, samples_of}
use Rattle.lattice.specs.declared.refusal.Refusal.{Refusal}
use Rattle.lattice.specs.declared.refusal.Refusal.TheVariants.{Device, Failed, Damaged}

-- the corner's tile has this sample at this index
abbrev pub IsSampleOf : Mosaic → Corner → ℕ → ℤ → Type 0
IsSampleOf m c i s = IsSomeAnd (samples_of m c) (λ samples. slice_get samples i ≡ Some s)

-- the samples are those of the corner's tile from this index on
abbrev pub AreSamplesOf : Mosaic → Corner → ℕ → List ℤ → Type 0
AreSamplesOf m c first samples = IsSomeAnd (samples_of m c) (λ all. slice_range all first (first + length samples) ≡ samples)

-- A count has risen, or it is the largest 64-bit number.
abbrev pub HasRisen : ℕ → ℕ → Type 0
HasRisen before now = min (before + 1) 18446744073709551615 ≤ now

-- the refusals of a read, by the count of failures before and after
abbrev pub MayRefuse : ℕ → ℕ → Refusal → Type 0
MayRefuse before now Device = HasRisen before now
MayRefuse before now Failed = Unit {0}
MayRefuse before now Damaged = Unit {0}
MayRefuse before now _ = ⊥
