use Rattle.flow_cache.proofs.Prelude.{ℕ, length, range_at, spared_of, ◌<◌, ◌≡◌, ◌≤◌}
use Rattle.flow_cache.proofs.block_ranges.retain_spared.Given as goal

abbrev pub invariant-loop-block : goal.invariant-loop-block
invariant-loop-block l = record {
  whole : length l.ranges ≡ length l.fn.ranges;
  done : (b : ℕ) → b < l.block → range_at l.ranges b ≡ spared_of l.was l.is (range_at l.fn.ranges b);
  rest : (b : ℕ) → l.block ≤ b → range_at l.ranges b ≡ range_at l.fn.ranges b;
}
