use Rattle.tile_flood.proofs.Prelude.{AreCells, IsSeeding, block_of, labels_of, levels_of, ◌*◌, ◌+◌, ◌-◌, ◌<◌}
use Rattle.tile_flood.proofs.seeding.seed_row.Given as goal

abbrev pub invariant-loop-from : goal.invariant-loop-from
invariant-loop-from l = record {
  low : 0 < l.from;
  inside : l.from < l.block.n;
  cells : AreCells l.block.heights.now l.cells;
  state : IsSeeding (block_of l.block.n l.block.heights.now l.block.sinks.now) (levels_of l.cells) (labels_of l.cells) l.queue (l.i * l.block.n + l.from);
}

abbrev pub decreases-loop-from : goal.decreases-loop-from
decreases-loop-from l = l.block.n - l.from
