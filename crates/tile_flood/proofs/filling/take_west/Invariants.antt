use Rattle.tile_flood.proofs.Prelude.{AreCells, IsSpreading, List, Queue, block_of, labels_of, levels_of, unmarked, ◌+◌, ◌<◌, ◌≡◌, ◌≤◌, ◌⊎◌}
use Rattle.tile_flood.specs.Flooding.{AreMarkedStill}
use Rattle.tile_flood.specs.declared.filling.FilledSpan.{FilledSpan}
use Rattle.tile_flood.specs.Spans.{InSpans}
use Rattle.tile_flood.proofs.filling.take_west.Given as goal

abbrev pub invariant-loop-west : goal.invariant-loop-west
invariant-loop-west l = record {
  cells : AreCells l.block.heights.now l.cells;
  from : l.west ≤ l.fn.from;
  still : AreMarkedStill (levels_of l.fn.cells) (levels_of l.cells);
  count : unmarked (levels_of l.cells) + l.fn.from ≡ unmarked (levels_of l.fn.cells) + l.west;
  state : (queue : Queue) (spans : List FilledSpan) → InSpans spans l.fn.from → IsSpreading (block_of l.block.n l.block.heights.now l.block.sinks.now) (levels_of l.fn.cells) (labels_of l.fn.cells) queue (InSpans spans) l.popped.level l.popped.label →
      IsSpreading (block_of l.block.n l.block.heights.now l.block.sinks.now) (levels_of l.cells) (labels_of l.cells) queue (λ e. ((l.west ≤ e) × (e < l.fn.from)) ⊎ InSpans spans e) l.popped.level l.popped.label;
}

abbrev pub decreases-loop-west : goal.decreases-loop-west
decreases-loop-west l = l.west
