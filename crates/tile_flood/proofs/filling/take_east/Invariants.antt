use Rattle.tile_flood.proofs.Prelude.{AreCells, IsNear, IsSpreading, List, Queue, block_of, labels_of, levels_of, unmarked, ℕ, ◌+◌, ◌-◌, ◌<◌, ◌≡◌, ◌≤◌, ◌⊎◌}
use Rattle.tile_flood.specs.Flooding.{AreMarkedStill}
use Rattle.tile_flood.specs.declared.filling.FilledSpan.{FilledSpan}
use Rattle.tile_flood.specs.Spans.{InSpans}
use Rattle.tile_flood.proofs.filling.take_east.Given as goal

abbrev pub invariant-loop-east : goal.invariant-loop-east
invariant-loop-east l = record {
  cells : AreCells l.block.heights.now l.cells;
  from : l.fn.from ≤ l.east;
  still : AreMarkedStill (levels_of l.fn.cells) (levels_of l.cells);
  count : unmarked (levels_of l.cells) + l.east ≡ unmarked (levels_of l.fn.cells) + l.fn.from;
  state : (queue : Queue) (spans : List FilledSpan) → (c : ℕ) → InSpans spans c → IsNear l.block.n c l.fn.from → IsSpreading (block_of l.block.n l.block.heights.now l.block.sinks.now) (levels_of l.fn.cells) (labels_of l.fn.cells) queue (InSpans spans) l.popped.level l.popped.label →
      IsSpreading (block_of l.block.n l.block.heights.now l.block.sinks.now) (levels_of l.cells) (labels_of l.cells) queue (λ e. ((l.fn.from ≤ e) × (e < l.east)) ⊎ InSpans spans e) l.popped.level l.popped.label;
}

abbrev pub decreases-loop-east : goal.decreases-loop-east
decreases-loop-east l = l.end - l.east
