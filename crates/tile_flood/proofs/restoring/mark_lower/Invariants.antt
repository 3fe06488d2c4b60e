use Rattle.tile_flood.specs.Views.{StandStillIn}
use Rattle.tile_flood.proofs.restoring.mark_lower.Given as goal

abbrev pub invariant-loop-d : goal.invariant-loop-d
invariant-loop-d l = StandStillIn l.planes l.fn.stands l.stands
