use Rattle.edits.proofs.Prelude.{drop, length, with_point, ◌++◌, ◌+◌, ◌≡◌}
use Rattle.edits.proofs.SinkLists.{rest_of, in_count}
use Rattle.edits.proofs.sinks.with_point.Given as goal

abbrev pub invariant-loop-other : goal.invariant-loop-other
invariant-loop-other l = record {
  made : with_point l.point l.points ≡ l.with.items ++ rest_of l.is_in l.point (drop l.other-index l.points);
  count : length l.with.items ≡ l.other-index + in_count l.is_in;
}
