use Rattle.border_graph.specs.Reduced.{ArePassesOf}
use Rattle.border_graph.proofs.reducing.passes_of.Given as goal

abbrev pub invariant-loop-spill : goal.invariant-loop-spill
invariant-loop-spill l = ArePassesOf l.size l.spills l.spill-index l.passes.items
