use Rattle.border_graph.proofs.Prelude.{Edge, ℕ, get_or, ◌<◌, ◌≤ℤ◌}
use Rattle.border_graph.proofs.bottleneck.has_no_lower.Given as goal

abbrev pub invariant-loop-edge : goal.invariant-loop-edge
invariant-loop-edge l = (k : ℕ) (d : Edge) → k < l.edge-index → l.crest ≤ℤ (get_or l.edges k d).level
