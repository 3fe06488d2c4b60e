use Rattle.flow_cache.proofs.Prelude.{IsAffected, range_at, ℕ, ◌<◌}
use Rattle.flow_cache.proofs.block_ranges.has_affected.Given as goal

abbrev pub invariant-loop-block : goal.invariant-loop-block
invariant-loop-block l = (b : ℕ) → b < l.block → IsAffected l.fn.was l.fn.is (range_at l.ranges b) → ⊥
