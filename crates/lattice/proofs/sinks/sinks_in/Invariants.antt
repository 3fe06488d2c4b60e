use Rattle.lattice.proofs.Prelude.{array_vec_len, drop, sinks_in, ◌++◌, ◌≡◌, ◌≤◌}
use Rattle.lattice.proofs.sinks.sinks_in.Given as goal

-- The indices found so far, followed by those of the remaining sinks, are the answer.
abbrev pub invariant-loop-sink : goal.invariant-loop-sink
invariant-loop-sink l = record {
  short : array_vec_len l.found ≤ l.sink-index;
  whole : l.found.items ++ sinks_in l.side l.corner (drop l.sink-index l.sinks) ≡ sinks_in l.side l.corner l.sinks;
}
