use Rattle.std.proofs.Common.{◌≡◌, ◌+◌, ◌*◌, drop}
use Rattle.flow_d8.specs.Filled.{number_of}
use Rattle.flow_d8.proofs.tiles.number.Given as goal

abbrev pub invariant-loop-i : goal.invariant-loop-i
invariant-loop-i l = number_of l.side l.corners l.point ≡ l.i * (l.side * l.side) + number_of l.side (drop l.i l.corners) l.point
