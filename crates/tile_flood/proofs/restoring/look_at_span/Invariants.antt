use Rattle.std.proofs.Common.{◌+◌, ◌*◌}
use Rattle.tile_flood.specs.Views.{AreFittingIn, AreStandingIn}
use Rattle.tile_flood.proofs.restoring.look_at_span.Given as goal

abbrev pub invariant-loop-j : goal.invariant-loop-j
invariant-loop-j l = record { standing : AreStandingIn l.planes l.stands; fitting : AreFittingIn l.planes l.points.items (l.span.row * l.planes.block.n + l.j) }
