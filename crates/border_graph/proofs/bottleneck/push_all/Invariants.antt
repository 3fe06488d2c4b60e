use Rattle.border_graph.specs.Bottleneck.{AreRaised}
use Rattle.border_graph.proofs.bottleneck.push_all.Given as goal

abbrev pub invariant-loop-edge : goal.invariant-loop-edge
invariant-loop-edge l = AreRaised l.found l.edge-index l.entry l.visited l.fn.frontier l.frontier
