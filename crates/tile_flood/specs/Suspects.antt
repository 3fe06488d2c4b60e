-- The levels and labels while a labelling is mended: each is supported by a neighbour, down to an outlet or to a suspect.
use Rattle.std.specs.Prelude.{◌≡◌, ◌≢◌, ℕ, ◌*◌, ◌<◌, ℤ, ◌≤ℤ◌, false, IsTrue, IsFalse, List, [], ◌∷◌, length, slice_index, slice_index_or, ◌⊎◌}
use Rattle.std.specs.Int.{int_max}
use Rattle.lattice.specs.Mosaic.{void}
use Rattle.lattice.specs.Block.{is_solid, is_linked, is_exit, is_beside}
use Rattle.labelling.specs.Blocks.{block_of}
use Rattle.labelling.specs.Labelling.{NO_LABEL}
use Rattle.tile_flood.specs.Carried.{IsSeed}
use Rattle.tile_flood.specs.Waiting.{Queue, Waits}
use Rattle.labelling.specs.Blocks.{is_marked}
use Rattle.tile_flood.specs.Affected.{IsAmong}

-- e's level and label are right if f's are: f supports e
pub record IsHeldUp (n : ℕ) (heights : List ℤ) (sinks : List ℕ) (levels : List ℤ) (labels : List ℕ) (e f : ℕ) : Type 0 where
  pub inner : IsFalse (is_exit (block_of n heights sinks) e)
  pub link : IsTrue (is_linked (block_of n heights sinks) e f)
  pub own : slice_index_or levels e void ≢ void
  pub full : slice_index_or levels f void ≢ void
  pub label : slice_index labels e ≡ slice_index labels f
  pub level : int_max (slice_index_or heights e void) (slice_index_or levels f void) ≤ℤ slice_index_or levels e void

-- e is supported along this path down to an outlet or to a suspect
abbrev pub IsHeldBy : (n : ℕ) (heights : List ℤ) (sinks : List ℕ) (levels : List ℤ) (labels : List ℕ) (Suspect : ℕ → Type 0) → ℕ → List ℕ → Type 0
IsHeldBy n heights sinks levels labels Suspect e [] = Suspect e ⊎ IsSeed (block_of n heights sinks) levels labels e
IsHeldBy n heights sinks levels labels Suspect e (f ∷ rest) = IsHeldUp n heights sinks levels labels e f × IsHeldBy n heights sinks levels labels Suspect f rest

-- the state of mending: marked points are supported, and outlets have their heights and labels. From a point that neither
-- waits nor is suspect, each link leads to a marked point whose level it can't lower
pub record IsMending (n : ℕ) (heights : List ℤ) (sinks : List ℕ) (levels : List ℤ) (labels : List ℕ) (Waiting Suspect : ℕ → Type 0) : Type 0 where
  pub levels_whole : length levels ≡ n * n
  pub labels_whole : length labels ≡ n * n
  pub ground : (e : ℕ) → IsTrue (is_marked levels e) → IsTrue (is_solid (block_of n heights sinks) e)
  pub unlabelled : (e : ℕ) → e < n * n → is_marked levels e ≡ false → slice_index labels e ≡ NO_LABEL
  pub exits : (e : ℕ) → IsTrue (is_exit (block_of n heights sinks) e) → IsSeed (block_of n heights sinks) levels labels e
  pub held : (e : ℕ) → IsTrue (is_marked levels e) → (rest : List ℕ) × IsHeldBy n heights sinks levels labels Suspect e rest
  pub links : (x y : ℕ) → IsTrue (is_marked levels x) → IsTrue (is_linked (block_of n heights sinks) x y) →
      (Waiting x ⊎ Suspect x) ⊎ (IsTrue (is_marked levels y) × (slice_index_or levels y void ≤ℤ int_max (slice_index_or heights y void) (slice_index_or levels x void)))

-- the point is in the queue, at its level
abbrev pub IsIn : Queue → List ℤ → ℕ → Type 0
IsIn queue levels e = Waits queue (slice_index_or levels e void) e

-- the point is in the queue, or it is the point c that was taken at this level
abbrev pub IsInOr : Queue → List ℤ → ℕ → ℤ → ℕ → Type 0
IsInOr queue levels c low e = IsIn queue levels e ⊎ ((e ≡ c) × (slice_index_or levels e void ≡ low))

abbrev pub AreMending : ℕ → List ℤ → List ℕ → List ℤ → List ℕ → Queue → Queue → Type 0
AreMending n heights sinks levels labels queue suspects = IsMending n heights sinks levels labels (IsIn queue levels) (IsIn suspects levels)

-- the point c, with this level and this label, passes them on to its neighbours
pub record IsPassingOn (n : ℕ) (heights : List ℤ) (sinks : List ℕ) (levels : List ℤ) (labels : List ℕ) (queue suspects : Queue) (c : ℕ) (low : ℤ) (label : ℕ) : Type 0 where
  pub state : IsMending n heights sinks levels labels (IsInOr queue levels c low) (IsIn suspects levels)
  pub marked : IsTrue (is_marked levels c)
  pub level : slice_index_or levels c void ≡ low
  pub named : slice_index labels c ≡ label

-- a neighbour of e has this label and at most this level
abbrev pub IsBesideWith : ℕ → List ℤ → List ℕ → ℕ → ℕ → ℤ → Type 0
IsBesideWith n levels labels e label most = (z : ℕ) × ((z < n * n) × (IsTrue (is_beside n e z) × (IsTrue (is_marked levels z) × ((slice_index labels z ≡ label) × (slice_index_or levels z void ≤ℤ most)))))

-- marked points stay marked, and no level rises
abbrev pub AreAtMost : List ℤ → List ℤ → Type 0
AreAtMost levels levels' = (e : ℕ) → IsTrue (is_marked levels e) → IsTrue (is_marked levels' e) × (slice_index_or levels' e void ≤ℤ slice_index_or levels e void)

-- the state of mending, when only the first k listed points have their new heights and the others have earlier ones
pub record IsBeginning (n : ℕ) (heights : List ℤ) (sinks : List ℕ) (points : List ℕ) (levels : List ℤ) (labels : List ℕ) (queue suspects : Queue) (k : ℕ) : Type 0 where
  pub heights₀ : List ℤ
  pub state : AreMending n heights₀ sinks levels labels queue suspects
  pub ground : (e : ℕ) → is_solid (block_of n heights₀ sinks) e ≡ is_solid (block_of n heights sinks) e
  pub others : (e : ℕ) → IsTrue (is_solid (block_of n heights sinks) e) → (slice_index_or heights₀ e void ≡ slice_index_or heights e void) ⊎ (IsAmong points k e × IsTrue (is_marked levels e))
