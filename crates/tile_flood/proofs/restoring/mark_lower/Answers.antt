use Rattle.std.proofs.Common.{arith}
use Rattle.tile_flood.proofs.Windows.{window_along}
use Rattle.tile_flood.proofs.restoring.mark_lower.Goals as goal

pub mark_above-requires-clause-beside : goal.mark_above-requires-clause-beside
mark_above-requires-clause-beside c k less = window_along c.args.planes.now.block.n c.args.i 1 c.loop-d.d k (omega arith) (omega arith) (omega arith) c.loop-d-test.true

pub loop-d-preserved : goal.loop-d-preserved
loop-d-preserved c heights sinks are = c.mark_above.ensures.standing heights sinks (c.loop-d.invariant heights sinks are)
