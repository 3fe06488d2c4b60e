use Rattle.std.proofs.Common.{◌≡◌, ◌≤◌, ◌*◌, take}
use Rattle.std.specs.List.{sum_by}
use Rattle.water.specs.Runs.{run_count}
use Rattle.lines.proofs.lists.point_count.Given as goal

abbrev pub invariant-loop-run : goal.invariant-loop-run
invariant-loop-run l = (l.count ≡ sum_by run_count (take l.run-index l.runs)) × (l.count ≤ l.run-index * 4294967296)
