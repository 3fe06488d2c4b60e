use Rattle.tile_flood.specs.Views.{StandStillIn}
use Rattle.tile_flood.specs.Restoring.{AreReached}
use Rattle.tile_flood.proofs.restoring.spread.Given as goal

abbrev pub invariant-loop : goal.invariant-loop
invariant-loop l = record {
  reached : AreReached l.planes.block.n l.stands l.reached.items;
  standing : StandStillIn l.planes l.fn.stands l.stands;
}
