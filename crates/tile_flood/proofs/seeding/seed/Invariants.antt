use Rattle.tile_flood.proofs.Prelude.{AreCells, IsSeeding, block_of, labels_of, levels_of, ◌*◌}
use Rattle.tile_flood.proofs.seeding.seed.Given as goal

abbrev pub invariant-loop-i : goal.invariant-loop-i
invariant-loop-i l = record {
  cells : AreCells l.block.heights.now l.cells;
  state : IsSeeding (block_of l.block.n l.block.heights.now l.block.sinks.now) (levels_of l.cells) (labels_of l.cells) l.queue (l.i * l.block.n);
}
