use Rattle.border_graph.specs.Forest.{IsForestSoFar}
use Rattle.border_graph.proofs.forest.keep.Given as goal

abbrev pub invariant-loop-k : goal.invariant-loop-k
invariant-loop-k l = IsForestSoFar l.count l.sorted l.k l.parent l.kept.items
