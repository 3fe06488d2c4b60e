-- Rim points of a tile by their numbers.
use Rattle.std.specs.Prelude.{◌≡◌, ℕ, ◌+◌, ◌*◌, ◌-◌, ◌/◌, ◌%◌, ◌<◌, ◌≤◌, nat_lt, nat_eq, if◌then◌else◌, IsTrue}
use Rattle.lattice.specs.Block.{is_rim, rim_number}

-- the rim point with number k has the index e
pub record IsRimPoint (n k e : ℕ) : Type 0 where
  pub small : e < n * n
  pub rim : IsTrue (is_rim n e)
  pub number : rim_number n e ≡ k

-- the index of the rim point with a number
abbrev pub rim_index : ℕ → ℕ → ℕ
rim_index n k = if nat_lt k n then k else (if nat_lt k (n + 2 * (n - 2)) then ((k - n) / 2 + 1) * n + (if nat_eq ((k - n) % 2) 0 then 0 else n - 1)
    else (n - 1) * n + (k - (n + 2 * (n - 2))))

-- Each number below four times the edge belongs to a rim point.
abbrev pub EachNumberHasARimPoint : Type 0
EachNumberHasARimPoint = (n k : ℕ) → 3 ≤ n → k < 4 * (n - 1) → IsRimPoint n k (rim_index n k)

-- Each number belongs to one rim point only.
abbrev pub EachNumberIsOfOneRimPoint : Type 0
EachNumberIsOfOneRimPoint = (n k e f : ℕ) → 3 ≤ n → IsRimPoint n k e → IsRimPoint n k f → e ≡ f

-- Each rim point has a number, and only one.
abbrev pub EachRimPointIsNumbered : Type 0
EachRimPointIsNumbered = (n k e : ℕ) → 3 ≤ n → IsRimPoint n k e → k < 4 * (n - 1)
