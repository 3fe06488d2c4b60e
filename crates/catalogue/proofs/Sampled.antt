-- What a read of samples gives.
use Rattle.std.proofs.Common.{rules}
use Rattle.catalogue.proofs.Prelude.{AreSamplesOf, Corner, IsSampleOf, IsSomeAnd, List, Mosaic, Option, Some, ℕ, ℤ, drop, get_or, length, refl, samples_of, slice_get, slice_range, subst, sym, take, ◌+◌, ◌-◌, ◌<◌, ◌≡◌}
use Rattle.std.proofs.lemmas.Option.{slice_get_read}

pub sample_from : (m : Mosaic) (c : Corner) (i : ℕ) (s : ℤ) (samples : List ℤ) → samples_of m c ≡ Some samples → i < length samples → s ≡ get_or samples i s → IsSampleOf m c i s
sample_from m c i s samples found within read =
    subst (λ (o : Option (List ℤ)). IsSomeAnd o (λ l. slice_get l i ≡ Some s)) (sym found) (slice_get_read samples (length samples) i s refl within read)

-- Some of a tile's samples, as many as were asked for, from an index on.
pub samples_from : (m : Mosaic) (c : Corner) (first count : ℕ) (part samples : List ℤ) → samples_of m c ≡ Some samples → length part ≡ count
    → part ≡ take (first + count - first) (drop first samples) → AreSamplesOf m c first part
samples_from m c first count part samples found long is = search rules
