use Rattle.std.proofs.Common.{◌∷◌}
use Rattle.tile_flood.specs.Views.{StandStillIn}
use Rattle.tile_flood.specs.Restoring.{AreReached}
use Rattle.tile_flood.proofs.restoring.spread_from.Given as goal

abbrev pub invariant-loop-d : goal.invariant-loop-d
invariant-loop-d l = record {
  reached : AreReached l.planes.block.n l.stands (l.e ∷ l.reached.items);
  standing : StandStillIn l.planes l.fn.stands l.stands;
}
