use Rattle.border_graph.proofs.Prelude.{ℕ, corner_at, ◌<◌, ◌≡◌}
use Rattle.border_graph.proofs.seams.place_of.Given as goal

abbrev pub invariant-loop-place : goal.invariant-loop-place
invariant-loop-place l = (u : ℕ) → u < l.place → corner_at l.corners u ≡ l.corner → ⊥
