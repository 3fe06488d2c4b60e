use Rattle.std.proofs.Common.{arith}
use Rattle.tile_flood.proofs.InCells.{fresh_level, fresh_label}
use Rattle.tile_flood.proofs.cells.unlabelled.Goals as goal

pub returns-clause-no_level : goal.returns-clause-no_level
returns-clause-no_level c = let i = c.loop-e.invariant in fresh_level c.args.heights.now c.loop-e.cells.items i.whole (λ f d below. i.fresh f d (omega arith))

pub returns-clause-no_label : goal.returns-clause-no_label
returns-clause-no_label c = let i = c.loop-e.invariant in fresh_label c.args.heights.now c.loop-e.cells.items i.whole (λ f d below. i.fresh f d (omega arith))
