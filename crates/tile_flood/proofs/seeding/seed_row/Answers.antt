use Rattle.tile_flood.proofs.Prelude.{IsSeeding, arith, block_of, labels_of, levels_of, subst, ◌*◌, ◌+◌, ◌-◌, ◌≡◌}
use Rattle.tile_flood.proofs.PlainRows.{plain_at}
use Rattle.tile_flood.proofs.Spreading.{seeds_passed}
use Rattle.tile_flood.proofs.seeding.seed_row.Goals as goal

pub loop-from-preserved : goal.loop-from-preserved
loop-from-preserved c =
    let inv = c.loop-from.invariant in
    record {
      low = omega arith;
      inside = omega arith;
      cells = inv.cells;
      state = seeds_passed c.args.block.now.n c.args.block.now.heights.now c.args.block.now.sinks.now (levels_of c.loop-from.cells) (labels_of c.loop-from.cells) c.loop-from.queue (c.args.i * c.args.block.now.n + c.loop-from.from) (c.args.i * c.args.block.now.n + c.min-to.result) inv.state (omega arith)
          (λ e from below. plain_at c.args.block.now.n c.args.block.now.heights.now c.args.block.now.sinks.now c.args.i c.loop-from.from c.min-to.result e from below (c.is_plain.ensures c.if-not-is_plain.false));
    }

pub seed_at-requires-2-clause-state : goal.seed_at-requires-2-clause-state
seed_at-requires-2-clause-state c =
    let end : c.args.i * c.args.block.now.n + c.loop-from.from ≡ c.args.i * c.args.block.now.n + (c.args.block.now.n - 1) = omega arith in
    subst (IsSeeding (block_of c.args.block.now.n c.args.block.now.heights.now c.args.block.now.sinks.now) (levels_of c.loop-from.cells) (labels_of c.loop-from.cells) c.loop-from.queue) end c.loop-from.invariant.state

pub returns-clause-state : goal.returns-clause-state
returns-clause-state c =
    let end : c.args.i * c.args.block.now.n + ((c.args.block.now.n - 1) + 1) ≡ (c.args.i + 1) * c.args.block.now.n = omega arith in
    subst (IsSeeding (block_of c.args.block.now.n c.args.block.now.heights.now c.args.block.now.sinks.now) (levels_of c.seed_at-2.new.cells) (labels_of c.seed_at-2.new.cells) c.seed_at-2.new.queue) end c.in_ok-seed_at-2.ensures.state
