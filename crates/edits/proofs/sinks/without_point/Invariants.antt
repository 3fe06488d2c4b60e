use Rattle.edits.proofs.Prelude.{drop, length, without_point, ◌++◌, ◌≡◌, ◌≤◌}
use Rattle.edits.proofs.sinks.without_point.Given as goal

abbrev pub invariant-loop-other : goal.invariant-loop-other
invariant-loop-other l = record {
  made : without_point l.point l.points ≡ l.without.items ++ without_point l.point (drop l.other-index l.points);
  count : length l.without.items ≤ l.other-index;
}
