use Rattle.levels.proofs.Prelude.{Contains, Corner, ℕ, get_or, ◌<◌}
use Rattle.levels.proofs.asking.present_holder.Given as goal

abbrev pub invariant-loop-corner : goal.invariant-loop-corner
invariant-loop-corner g l = (k : ℕ) (d : Corner) → k < l.corner-index → Contains (g.S.Samples.corners l.samples) (get_or l.corner-items k d) → ⊥
