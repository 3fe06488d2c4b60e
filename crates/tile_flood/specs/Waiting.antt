-- The queue of a flood: a bucket of points for each level from `least` on.
use Rattle.std.specs.Prelude.{◌≡◌, ℕ, ◌<◌, ℤ, pos, ◌+ℤ◌, ◌≤ℤ◌, ◌⊎◌, List, [], length, Contains, sum_by}
use Rattle.std.proofs.Common.{get_or}

-- the level of the first bucket, and the points of each bucket
pub record Queue : Type 0 where
  pub least : ℤ
  pub buckets : List (List ℕ)

abbrev pub bucket : List (List ℕ) → ℕ → List ℕ
bucket buckets b = get_or buckets b []

-- the level has a bucket
pub record HasBucket (queue : Queue) (level : ℤ) : Type 0 where
  pub number : ℕ
  pub inside : number < length queue.buckets
  pub at : level ≡ queue.least +ℤ pos number

-- the point waits at this level
abbrev pub Waits : Queue → ℤ → ℕ → Type 0
Waits queue level e = (b : ℕ) × ((level ≡ queue.least +ℤ pos b) × Contains (bucket queue.buckets b) e)

-- all waiting points still wait
abbrev pub WaitStill : Queue → Queue → Type 0
WaitStill old new = (l : ℤ) (e : ℕ) → Waits old l e → Waits new l e

abbrev pub AreEmpty : List (List ℕ) → Type 0
AreEmpty buckets = (b : ℕ) → bucket buckets b ≡ []

abbrev pub AreEmptyBelow : List (List ℕ) → ℕ → Type 0
AreEmptyBelow buckets k = (b : ℕ) → b < k → bucket buckets b ≡ []

-- the number of waiting points
abbrev pub waiting : Queue → ℕ
waiting queue = sum_by length queue.buckets

-- exactly the same points wait at the same levels
pub record IsExtended (old new : Queue) : Type 0 where
  pub still : WaitStill old new
  pub only : WaitStill new old
  pub count : waiting new ≡ waiting old

-- the point now waits at this level too
pub record IsJoined (old new : Queue) (level : ℤ) (e : ℕ) : Type 0 where
  pub waits : Waits new level e
  pub others : (l : ℤ) (f : ℕ) → Waits old l f → Waits new l f
  pub only : (l : ℤ) (f : ℕ) → Waits new l f → ((l ≡ level) × (f ≡ e)) ⊎ Waits old l f

-- the point waited at this level, the lowest one, and is removed
pub record IsTaken (old new : Queue) (level : ℤ) (e : ℕ) : Type 0 where
  pub waited : Waits old level e
  pub lowest : (l : ℤ) (f : ℕ) → Waits old l f → level ≤ℤ l
  pub others : (l : ℤ) (f : ℕ) → Waits old l f → ((l ≡ level) × (f ≡ e)) ⊎ Waits new l f
  pub only : (l : ℤ) (f : ℕ) → Waits new l f → Waits old l f
