use Rattle.flow_d8.specs.FlowGrids.{AreInvalidated}
use Rattle.flow_d8.proofs.grid.invalidate.Given as goal

abbrev pub invariant-loop-i : goal.invariant-loop-i
invariant-loop-i l = AreInvalidated l.first l.i l.fn.flows l.flows
