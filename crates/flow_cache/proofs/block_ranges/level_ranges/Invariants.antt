use Rattle.std.proofs.Common.{◌≡◌, ◌+◌, ◌*◌, length}
use Rattle.flow_cache.specs.LevelRanges.{block_of, AreRangesTo}
use Rattle.flow_cache.proofs.block_ranges.level_ranges.Given as goal

abbrev pub invariant-loop-row : goal.invariant-loop-row
invariant-loop-row l = record {
  whole : length l.ranges.items ≡ block_of l.width 0 + 128;
  so : AreRangesTo l.width (l.row * l.width) l.levels l.ranges.items;
}
