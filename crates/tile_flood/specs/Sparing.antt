-- Which neighbours of a point are connected around it: those with its label and at most its level.
use Rattle.std.specs.Prelude.{◌≡◌, ◌≢◌, ℕ, ◌+◌, ◌*◌, ◌%◌, ◌<◌, ℤ, ◌≤ℤ◌, ◌<ℤ◌, ◌⊎◌, IsTrue, nat_eq, if◌then◌else◌, List, [], ◌∷◌, slice_index, slice_index_or}
use Rattle.lattice.specs.Mosaic.{void}
use Rattle.lattice.specs.Block.{is_beside}
use Rattle.labelling.specs.Blocks.{is_marked}
use Rattle.tile_flood.specs.Waiting.{Queue}
use Rattle.tile_flood.specs.Affected.{IsInWindow}
use Rattle.tile_flood.specs.Suspects.{IsIn}

-- the k-th place around the centre of a 3 x 3 window, clockwise from the north-west
abbrev pub in_round : ℕ → ℕ
in_round k = if nat_eq k 3 then 5 else if nat_eq k 4 then 8 else if nat_eq k 5 then 7 else if nat_eq k 7 then 3 else k

module _ (n : ℕ) (levels : List ℤ) (labels : List ℕ) (p : ℕ) where
  -- z is a neighbour of p with its label and at most its level
  pub record IsAround (z : ℕ) : Type 0 where
    pub inside : z < n * n
    pub beside : IsTrue (is_beside n p z)
    pub apart : z ≢ p
    pub marked : IsTrue (is_marked levels z)
    pub label : slice_index labels z ≡ slice_index labels p
    pub level : slice_index_or levels z void ≤ℤ slice_index_or levels p void

  -- a path leads from z to f over neighbours of p with its label and at most its level, each next to the last
  abbrev pub LeadsAround : ℕ → List ℕ → ℕ → Type 0
  LeadsAround z [] f = z ≡ f
  LeadsAround z (g ∷ rest) f = IsTrue (is_beside n z g) × (IsAround g × LeadsAround g rest f)

  -- the neighbours of p with its label and at most its level are connected with one another
  abbrev pub HangTogether : Type 0
  HangTogether = (z f : ℕ) → IsAround z → IsAround f → (way : List ℕ) × LeadsAround z way f

module _ (n : ℕ) (levels : List ℤ) (labels : List ℕ) (p start : ℕ) where
  -- z is a neighbour of p with its label and at most its level. It is at one of the first k places around p from the start on
  pub record IsSeen (k z : ℕ) : Type 0 where
    pub place : ℕ
    pub before : place < k
    pub spot : IsInWindow n p (in_round ((start + place) % 8)) z
    pub around : IsAround n levels labels p z

  -- the neighbours seen at the first k places are connected, and the last of them is at this place of the window; 4, the
  -- centre, if there is none
  pub record IsRun (k last : ℕ) : Type 0 where
    pub small : last < 9
    pub end : ((last ≡ 4) × ((z : ℕ) → IsSeen k z → ⊥)) ⊎ ((z : ℕ) × (IsInWindow n p last z × IsSeen k z))
    pub together : (z f : ℕ) → IsSeen k z → IsSeen k f → (way : List ℕ) × LeadsAround n levels labels p z way f

-- from this level on, neighbours with p's label become suspect when p is reset. It is p's level, or the next one if p isn't
-- suspect and its neighbours are connected around it
abbrev pub IsFirstSuspect : (n : ℕ) (levels : List ℤ) (labels : List ℕ) (suspects : Queue) (p : ℕ) → ℤ → Type 0
IsFirstSuspect n levels labels suspects p from = (from ≤ℤ slice_index_or levels p void)
    ⊎ (((v : ℤ) → slice_index_or levels p void <ℤ v → from ≤ℤ v) × (HangTogether n levels labels p × (IsIn suspects levels p → ⊥)))
