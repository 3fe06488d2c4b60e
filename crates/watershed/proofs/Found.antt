-- Sets with the same points have the same runs.
use Rattle.std.proofs.Common.{rules}
use Rattle.watershed.proofs.Prelude.{AreRuns, List, Point, Run, [], arith, refl, ≤ℤ_same, ◌↔◌, ◌∷◌, ◌≡◌}

-- a set without points has no runs
pub empty_runs : (inside : Point → Type 0) (runs : List Run) → AreRuns inside runs → ((p : Point) → inside p → ⊥) → runs ≡ []
empty_runs inside [] are none = refl
empty_runs inside (r ∷ rest) are none =
    let start : Point = record { y = r.y; x = r.first } in
    absurd (none start ((are.covers start).0 (0, r, omega arith, refl, (refl, (≤ℤ_same r.first, are.full 0 r (omega arith))))))

-- the runs of a set are those of each set with the same points
pub runs_alike : (inside other : Point → Type 0) (runs : List Run) → ((x : Point) → inside x ↔ other x) → AreRuns inside runs → AreRuns other runs
runs_alike inside other runs same are = search rules
