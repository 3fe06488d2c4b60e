use Rattle.levels.proofs.Prelude.{Holds, ℕ, ◌<◌}
use Rattle.levels.specs.Flooded.{corner_at}
use Rattle.levels.proofs.filling.first_holder.Given as goal

abbrev pub invariant-loop-number : goal.invariant-loop-number
invariant-loop-number l = (k : ℕ) → k < l.number → Holds l.side (corner_at l.corners k) l.point → ⊥
