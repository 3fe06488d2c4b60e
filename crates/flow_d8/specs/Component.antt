-- The samples of a flat.
use Rattle.std.specs.Prelude.{◌≡◌, ℕ, zero, suc, List, slice_index_or}
use Rattle.flow_d8.specs.Prelude.{Dir, Flow, Unknown}
use Rattle.flow_d8.specs.Flows.{IsOfFlat}

-- n steps over samples inside flats lead from the seed to k
abbrev pub Connects : List Flow → (ℕ → Dir → ℕ) → ℕ → ℕ → ℕ → Type 0
Connects flows by seed zero k = seed ≡ k
Connects flows by seed (suc n) k = (j : ℕ) × (d : Dir) × (Connects flows by seed n j × (IsOfFlat (slice_index_or flows j Unknown) × (by j d ≡ k)))
