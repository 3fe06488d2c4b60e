use Rattle.tile_flood.proofs.Prelude.{AreCells, IsSeeding, block_of, labels_of, levels_of, ◌*◌, ◌+◌}
use Rattle.tile_flood.proofs.seeding.seed_span.Given as goal

abbrev pub invariant-loop-j : goal.invariant-loop-j
invariant-loop-j l = record {
  cells : AreCells l.block.heights.now l.cells;
  state : IsSeeding (block_of l.block.n l.block.heights.now l.block.sinks.now) (levels_of l.cells) (labels_of l.cells) l.queue (l.span.row * l.block.n + l.j);
}
