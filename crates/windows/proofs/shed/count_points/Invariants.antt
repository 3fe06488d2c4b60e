use Rattle.std.proofs.Common.{◌≡◌, min, take}
use Rattle.water.specs.CountLaws.{points_in}
use Rattle.windows.proofs.shed.count_points.Given as goal

abbrev pub invariant-loop-run : goal.invariant-loop-run
invariant-loop-run l = l.count ≡ min (points_in (take l.run-index l.runs)) 18446744073709551615
