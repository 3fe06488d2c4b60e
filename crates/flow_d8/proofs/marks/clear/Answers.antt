use Rattle.flow_d8.proofs.Prelude.{arith}
use Rattle.flow_d8.proofs.marks.clear.Goals as goal

pub clear_run-requires : goal.clear_run-requires
clear_run-requires c k in_it = omega (arith, c.loop-i.invariant.whole, c.requires.small k (c.loop-i.i, (c.loop-i-test.true, in_it)))
