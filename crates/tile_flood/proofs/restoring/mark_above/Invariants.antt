use Rattle.tile_flood.specs.Views.{StandStillIn}
use Rattle.tile_flood.proofs.restoring.mark_above.Given as goal

abbrev pub invariant-loop-k : goal.invariant-loop-k
invariant-loop-k l = StandStillIn l.planes l.fn.stands l.stands
