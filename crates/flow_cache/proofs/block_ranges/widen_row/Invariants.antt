use Rattle.flow_cache.proofs.Prelude.{AreRangesTo, length, ◌*◌, ◌+◌, ◌≡◌}
use Rattle.flow_cache.proofs.block_ranges.widen_row.Given as goal

abbrev pub invariant-loop-column : goal.invariant-loop-column
invariant-loop-column l = record {
  whole : length l.ranges ≡ length l.fn.ranges;
  so : AreRangesTo l.width (l.row * l.width + l.column) l.levels l.ranges;
}
