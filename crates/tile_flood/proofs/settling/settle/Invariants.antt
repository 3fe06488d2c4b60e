use Rattle.tile_flood.proofs.Prelude.{[], AreCells, IsFlooding, block_of, ◌≡◌, labels_of, levels_of, unmarked, waiting, ◌+◌}
use Rattle.tile_flood.proofs.settling.settle.Given as goal

abbrev pub invariant-loop-entry : goal.invariant-loop-entry
invariant-loop-entry l = record {
  cells : AreCells l.block.heights.now l.cells;
  state : IsFlooding (block_of l.block.n l.block.heights.now l.block.sinks.now) (levels_of l.cells) (labels_of l.cells) l.queue;
  none : l.spans.items ≡ [];
}

abbrev pub decreases-loop-entry : goal.decreases-loop-entry
decreases-loop-entry l = unmarked (levels_of l.cells) + waiting l.queue
