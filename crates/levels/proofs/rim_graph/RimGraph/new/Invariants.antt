use Rattle.levels.proofs.Prelude.{None, ℕ, length, loaded_at, ◌≡◌}
use Rattle.levels.proofs.rim_graph.RimGraph.new.Given as goal

abbrev pub invariant-loop : goal.invariant-loop
invariant-loop g l = record {
  whole : length l.loaded.items ≡ l.counter;
  none : (t : ℕ) → loaded_at l.loaded.items t ≡ None;
}
