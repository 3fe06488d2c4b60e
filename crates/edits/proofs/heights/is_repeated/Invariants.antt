use Rattle.edits.proofs.Prelude.{drop, is_repeated, ◌≡◌}
use Rattle.edits.proofs.heights.is_repeated.Given as goal

abbrev pub invariant-loop-i : goal.invariant-loop-i
invariant-loop-i l = is_repeated l.points ≡ is_repeated (drop l.i l.points)
