-- The passages between labels as they are gathered. Each pair of adjacent points is visited once.
use Rattle.std.specs.Prelude.{◌≡◌, ◌≢◌, ℕ, ◌+◌, ◌*◌, ◌-◌, ◌<◌, ◌≤◌, ℤ, ◌≤ℤ◌, IsTrue, false, List, length, min, max, slice_index, slice_index_or, Contains, ◌⊎◌}
use Rattle.std.specs.Int.{int_max}
use Rattle.std.specs.List.{AllPairs}
use Rattle.lattice.specs.Mosaic.{void}
use Rattle.lattice.specs.Block.{is_linked, is_beside}
use Rattle.labelling.specs.Blocks.{bare_block}
use Rattle.labelling.specs.declared.spill.Spill.{Spill}
use Rattle.labelling.specs.Blocks.{is_marked}
use Rattle.labelling.specs.Spills.{Meets, HaveSameLabels}

-- two adjacent points have levels and different labels: p has these labels, and the level at which water passes
pub record IsPassage (levels : List ℤ) (labels : List ℕ) (e f : ℕ) (p : Spill) : Type 0 where
  pub from : IsTrue (is_marked levels e)
  pub to : IsTrue (is_marked levels f)
  pub apart : slice_index labels e ≢ slice_index labels f
  pub lower : p.a ≡ min (slice_index labels e) (slice_index labels f)
  pub higher : p.b ≡ max (slice_index labels e) (slice_index labels f)
  pub level : p.level ≡ int_max (slice_index_or levels e void) (slice_index_or levels f void)

-- one of the points has no level, or their labels are equal
abbrev pub IsNoPassage : List ℤ → List ℕ → ℕ → ℕ → Type 0
IsNoPassage levels labels e f = (is_marked levels e ≡ false) ⊎ ((is_marked levels f ≡ false) ⊎ (slice_index labels e ≡ slice_index labels f))

-- the list has a passage with p's labels that is no higher
abbrev pub IsMetBy : List Spill → Spill → Type 0
IsMetBy found p = (q : Spill) × (Contains found q × (HaveSameLabels q p × (q.level ≤ℤ p.level)))

-- each passage of the old list has one with its labels in the new list that is no higher
abbrev pub AreFoundStill : List Spill → List Spill → Type 0
AreFoundStill old new = (p : Spill) → Contains old p → IsMetBy new p

-- the passage p is added, or replaces a higher one with its labels
pub record IsListed (old new : List Spill) (p : Spill) : Type 0 where
  pub only : (q : Spill) → Contains new q → Contains old q ⊎ (p ≡ q)
  pub still : AreFoundStill old new
  pub listed : IsMetBy new p

-- `count` successive points from e on and from f on are neighbours in pairs, and e's come before f's
pub record AreBeside (n e f count : ℕ) : Type 0 where
  pub first : e + count ≤ n * n
  pub second : f + count ≤ n * n
  pub beside : (k : ℕ) → k < count → IsTrue (is_beside n (e + k) (f + k))
  pub apart : e < f

module _ (n : ℕ) (levels : List ℤ) (labels : List ℕ) where
  -- each listed passage is one between two adjacent points
  abbrev pub ArePassages : List Spill → Type 0
  ArePassages found = (p : Spill) → Contains found p → (p.a < p.b) × Meets n levels levels labels p.a p.b p.level

  -- if water passes between the two points, a passage at most as high is listed
  abbrev pub IsFound : List Spill → ℕ → ℕ → Type 0
  IsFound found e f = IsTrue (is_linked (bare_block n levels) e f) → slice_index labels e ≢ slice_index labels f → (p : Spill) × (IsMetBy found p × IsPassage levels labels e f p)

  -- the passages between `count` points from e on and those from f on are listed
  pub record AreGathered (old new : List Spill) (e f count : ℕ) : Type 0 where
    pub passages : ArePassages new
    pub still : AreFoundStill old new
    pub found : (k : ℕ) → k < count → IsFound new (e + k) (f + k)

  -- the passages from all points before k to later points are listed
  abbrev pub AreFoundBelow : List Spill → ℕ → Type 0
  AreFoundBelow found k = (e f : ℕ) → e < k → e < f → IsFound found e f

-- p has a lower pair of labels than q
abbrev pub HasLowerLabels : Spill → Spill → Type 0
HasLowerLabels p q = (p.a < q.a) ⊎ ((p.a ≡ q.a) × (p.b < q.b))

-- the list is sorted by labels, and for the same labels by level
abbrev pub IsInOrder : List Spill → Type 0
IsInOrder sorted = (k : ℕ) (d : Spill) → k + 1 < length sorted →
    HasLowerLabels (slice_index_or sorted k d) (slice_index_or sorted (k + 1) d)
    ⊎ (HaveSameLabels (slice_index_or sorted k d) (slice_index_or sorted (k + 1) d) × ((slice_index_or sorted k d).level ≤ℤ (slice_index_or sorted (k + 1) d).level))

-- of the first k passages, the list has the lowest one for each pair of labels
pub record AreFirstsBelow (sorted firsts : List Spill) (k : ℕ) : Type 0 where
  pub from : (p : Spill) → Contains firsts p → Contains sorted p
  pub each : (j : ℕ) (d : Spill) → j < k → (q : Spill) × (Contains firsts q × (HaveSameLabels q (slice_index_or sorted j d) × (q.level ≤ℤ (slice_index_or sorted j d).level)))
  pub once : AllPairs (λ p q. ¬ HaveSameLabels p q) firsts
  pub last : (p d : Spill) → Contains firsts p → HasLowerLabels p (slice_index_or sorted (k - 1) d) ⊎ HaveSameLabels p (slice_index_or sorted (k - 1) d)
  pub some : 0 < length firsts → 0 < k

abbrev pub AreFirsts : List Spill → List Spill → Type 0
AreFirsts sorted firsts = AreFirstsBelow sorted firsts (length sorted)
