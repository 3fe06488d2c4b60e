use Rattle.std.proofs.Common.{◌≡◌}
use Rattle.border_graph.proofs.mosaic_graph.MosaicGraph.know_all.Given as goal

abbrev pub invariant-loop-node : goal.invariant-loop-node
invariant-loop-node l = l.self ≡ l.fn.self
