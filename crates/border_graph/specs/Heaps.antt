-- The elements of a heap after one is added or the lowest removed.
use Rattle.std.specs.Prelude.{◌≡◌, ◌⊎◌, List, Contains}

module _ {X : Type 0} where
  -- x is added to the heap
  pub record IsAdded (old new : List X) (x : X) : Type 0 where
    pub waits : Contains new x
    pub others : (l : X) → Contains old l → Contains new l
    pub only : (l : X) → Contains new l → (l ≡ x) ⊎ Contains old l

  -- x was in the heap, is no higher than any other element, and is removed
  pub record IsTaken (IsNoHigher : X → X → Type 0) (old new : List X) (x : X) : Type 0 where
    pub waited : Contains old x
    pub lowest : (l : X) → Contains old l → IsNoHigher x l
    pub others : (l : X) → Contains old l → (l ≡ x) ⊎ Contains new l
    pub only : (l : X) → Contains new l → Contains old l
