use Rattle.std.proofs.Common.{◌*◌}
use Rattle.tile_flood.specs.Views.{AreFittingIn, AreStandingIn}
use Rattle.tile_flood.proofs.restoring.changed_points.Given as goal

abbrev pub invariant-loop-i : goal.invariant-loop-i
invariant-loop-i l = record { standing : AreStandingIn l.planes l.stands.items; fitting : AreFittingIn l.planes l.points.items (l.i * l.planes.block.n) }
