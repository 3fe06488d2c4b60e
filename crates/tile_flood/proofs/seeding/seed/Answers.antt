use Rattle.tile_flood.proofs.Prelude.{IsSeeding, arith, block_of, labels_of, levels_of, subst, ◌*◌, ◌≡◌}
use Rattle.tile_flood.proofs.Spreading.{seeding_end}
use Rattle.tile_flood.proofs.seeding.seed.Goals as goal

pub returns-clause-state : goal.returns-clause-state
returns-clause-state c =
    let at_end : c.loop-i.i ≡ c.args.block.now.n = omega arith in
    let cells = c.loop-i.cells in
    seeding_end c.args.block.now.n c.args.block.now.heights.now c.args.block.now.sinks.now (levels_of cells) (labels_of cells) c.loop-i.queue
    (subst (λ k. IsSeeding (block_of c.args.block.now.n c.args.block.now.heights.now c.args.block.now.sinks.now) (levels_of cells) (labels_of cells) c.loop-i.queue (k * c.args.block.now.n)) at_end c.loop-i.invariant.state)
