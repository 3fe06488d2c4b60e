use Rattle.flow_d8.specs.FlowGrids.{AreFilledIn}
use Rattle.flow_d8.proofs.grid.fill.Given as goal

abbrev pub invariant-loop-i : goal.invariant-loop-i
invariant-loop-i l = AreFilledIn l.first l.i l.tile l.fn.flows l.flows
