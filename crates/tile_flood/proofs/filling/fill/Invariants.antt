use Rattle.tile_flood.proofs.Prelude.{AreCells, IsSpreading, block_of, labels_of, length, levels_of, unmarked, waiting, ◌+◌, ◌≤◌}
use Rattle.tile_flood.specs.Spans.{InSpans}
use Rattle.tile_flood.proofs.filling.fill.Given as goal

abbrev pub invariant-loop-span : goal.invariant-loop-span
invariant-loop-span l = record {
  cells : AreCells l.block.heights.now l.cells;
  state : IsSpreading (block_of l.block.n l.block.heights.now l.block.sinks.now) (levels_of l.cells) (labels_of l.cells) l.queue (InSpans l.spans.items) l.popped.level l.popped.label;
  count : unmarked (levels_of l.cells) + waiting l.queue ≤ unmarked (levels_of l.fn.cells) + waiting l.fn.queue;
}

abbrev pub decreases-loop-span : goal.decreases-loop-span
decreases-loop-span l = unmarked (levels_of l.cells) + length l.spans.items
