use Rattle.border_graph.proofs.Prelude.{AreRimsAt, length, map, ◌≡◌}
use Rattle.border_graph.proofs.joining.rims_of.Given as goal

abbrev pub invariant-loop-t : goal.invariant-loop-t
invariant-loop-t l = record {
  same : l.graph ≡ l.fn.graph;
  whole : length l.rims.items ≡ l.t;
  rims : AreRimsAt l.fn.graph (map (λ v. v.items) l.rims.items) l.t;
}
