use Rattle.std.proofs.Common.{◌+◌, ◌*◌, ◌<◌, ◌-◌}
use Rattle.tile_flood.specs.Views.{AreFittingIn, AreStandingIn}
use Rattle.tile_flood.proofs.restoring.look_at_row.Given as goal

abbrev pub invariant-loop-from : goal.invariant-loop-from
invariant-loop-from l = record {
  low : 0 < l.from;
  inside : l.from < l.planes.block.n;
  standing : AreStandingIn l.planes l.stands;
  fitting : AreFittingIn l.planes l.points.items (l.i * l.planes.block.n + l.from);
}

abbrev pub decreases-loop-from : goal.decreases-loop-from
decreases-loop-from l = l.planes.block.n - l.from
