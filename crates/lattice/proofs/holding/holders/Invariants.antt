use Rattle.lattice.proofs.Prelude.{array_vec_len, drop, ◌++◌, ◌≡◌, ◌≤◌}
use Rattle.lattice.proofs.Kept.{kept}
use Rattle.lattice.proofs.holding.holders.Given as goal

-- The holders found so far, followed by those among the remaining corners, are all holders.
abbrev pub invariant-loop-degrees : goal.invariant-loop-degrees
invariant-loop-degrees l = record {
  short : array_vec_len l.found ≤ l.degrees-index;
  whole : l.found.items ++ kept l.side l.point (drop l.degrees-index l.degrees-items) ≡ kept l.side l.point l.degrees-items;
}
