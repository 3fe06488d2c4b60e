use Rattle.border_graph.proofs.Prelude.{ℕ, length, summary_at, ◌*◌, ◌<◌, ◌≡◌}
use Rattle.border_graph.proofs.joining.side_of.Given as goal

abbrev pub invariant-loop-t : goal.invariant-loop-t
invariant-loop-t l = (i : ℕ) → i < l.t → length (summary_at l.summaries i).rim ≡ 4 * l.edge
