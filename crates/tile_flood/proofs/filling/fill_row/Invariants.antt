use Rattle.tile_flood.proofs.Prelude.{AreCells, IsSpreading, IsTrue, bare_block, block_of, is_marked, is_solid, labels_of, length, levels_of, unmarked, waiting, ℕ, ◌+◌, ◌-◌, ◌<◌, ◌∷◌, ◌≤◌}
use Rattle.tile_flood.specs.Flooding.{AreMarkedStill}
use Rattle.tile_flood.specs.Spans.{InSpans}
use Rattle.tile_flood.proofs.filling.fill_row.Given as goal

abbrev pub invariant-loop-e : goal.invariant-loop-e
invariant-loop-e l = record {
  cells : AreCells l.block.heights.now l.cells;
  from : l.initial.e ≤ l.e;
  state : IsSpreading (block_of l.block.n l.block.heights.now l.block.sinks.now) (levels_of l.cells) (labels_of l.cells) l.queue (InSpans (l.fn.span ∷ l.spans.items)) l.popped.level l.popped.label;
  still : AreMarkedStill (levels_of l.fn.cells) (levels_of l.cells);
  count : unmarked (levels_of l.cells) + waiting l.queue ≤ unmarked (levels_of l.fn.cells) + waiting l.fn.queue;
  left : unmarked (levels_of l.cells) + length l.spans.items ≤ unmarked (levels_of l.fn.cells) + length l.fn.spans.items;
  marked : (z : ℕ) → l.initial.e ≤ z → z < l.e → IsTrue (is_solid (bare_block l.block.n l.block.heights.now) z) → IsTrue (is_marked (levels_of l.cells) z);
}

abbrev pub decreases-loop-e : goal.decreases-loop-e
decreases-loop-e l = l.end - l.e
