use Rattle.border_graph.proofs.Prelude.{Contains, Entry, ℕ, is_among, length, true, ◌≡◌, ◌⊎◌}
use Rattle.border_graph.proofs.bottleneck.pop_unvisited.Given as goal

abbrev pub invariant-loop-entry : goal.invariant-loop-entry
invariant-loop-entry l = record {
  visited : (x : ℕ) → is_among l.visited x ≡ is_among l.fn.visited x;
  others : (s : Entry) → Contains l.fn.frontier s → (is_among l.fn.visited s.node ≡ true) ⊎ Contains l.frontier s;
  only : (s : Entry) → Contains l.frontier s → Contains l.fn.frontier s;
}

abbrev pub decreases-loop-entry : goal.decreases-loop-entry
decreases-loop-entry l = length l.frontier
