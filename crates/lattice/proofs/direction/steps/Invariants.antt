use Rattle.lattice.proofs.Prelude.{array_vec_len, directions, drop, reach_of, ◌++◌, ◌≡◌, ◌≤◌}
use Rattle.lattice.proofs.direction.steps.Given as goal

-- The steps found so far, followed by those in the remaining directions, are the answer.
abbrev pub invariant-loop-direction : goal.invariant-loop-direction
invariant-loop-direction l = record {
  short : array_vec_len l.found ≤ l.direction-index;
  whole : l.found.items ++ reach_of l.point (drop l.direction-index directions) ≡ reach_of l.point directions;
}
