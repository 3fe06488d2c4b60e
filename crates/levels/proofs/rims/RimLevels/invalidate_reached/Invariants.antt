use Rattle.levels.specs.Spared.{AreSparing}
use Rattle.levels.proofs.Changes.SparedLevels.{AreSpared}
use Rattle.levels.proofs.rims.RimLevels.invalidate_reached.Given as goal

abbrev pub invariant-loop-x : goal.invariant-loop-x
invariant-loop-x l = AreSpared (AreSparing l.heights) l.fn.self l.x l.self
