use Rattle.std.proofs.Common.{◌≡◌, length}
use Rattle.border_graph.specs.MosaicGraph.{AreLevelsAt}
use Rattle.border_graph.proofs.joining.rim_of.Given as goal

abbrev pub invariant-loop-k : goal.invariant-loop-k
invariant-loop-k l = record {
  same : l.graph ≡ l.fn.graph;
  whole : length l.rim.items ≡ l.k;
  levels : AreLevelsAt l.fn.graph l.t l.rim.items l.k;
}
