-- A set of points as its maximal runs. The definitions are this product's own.
use Rattle.std.specs.Prelude.{◌≡◌, ◌⊎◌, ◌↔◌, ◌+◌, ℕ, nat_abs, pos, ◌+ℤ◌, ◌-ℤ◌, ◌<ℤ◌, ◌≤ℤ◌, List, All, Any, length}
use Rattle.std.specs.List.{AllAdjacentBelow}
use Rattle.lattice.specs.declared.point.Point.{Point}
use Rattle.water.specs.declared.run.Run.{Run}

-- p is one of the run's points, those of row y from first to last
abbrev pub IsInRun : Run → Point → Type 0
IsInRun r p = (p.y ≡ r.y) × ((r.first ≤ℤ p.x) × (p.x ≤ℤ r.last))

-- the number of points of a run
abbrev pub run_count : Run → ℕ
run_count r = nat_abs (r.last -ℤ r.first) + 1

-- one of the runs has the point
abbrev pub Cover : List Run → Point → Type 0
Cover runs p = Any (λ r. IsInRun r p) runs

-- each run has at least one point
abbrev pub AreFull : List Run → Type 0
AreFull runs = All (λ r. r.first ≤ℤ r.last) runs

-- run b comes after run a, and doesn't touch it; runs are listed north first, then west first
abbrev pub IsAfter : Run → Run → Type 0
IsAfter a b = (b.y <ℤ a.y) ⊎ ((a.y ≡ b.y) × ((a.last +ℤ pos 1) <ℤ b.first))

-- the point q lies north of p, or west of it in its row
abbrev pub IsBefore : Point → Point → Type 0
IsBefore q p = (p.y <ℤ q.y) ⊎ ((q.y ≡ p.y) × (q.x <ℤ p.x))

-- the runs are the maximal ones of the set, north first, then west first
pub record AreRuns (inside : Point → Type 0) (runs : List Run) : Type 0 where
  pub covers : (p : Point) → Cover runs p ↔ inside p
  pub full : AreFull runs
  pub in_order : AllAdjacentBelow IsAfter runs (length runs)
