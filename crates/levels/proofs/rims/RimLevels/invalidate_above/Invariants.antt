use Rattle.levels.specs.Spared.{IsNoHigher}
use Rattle.levels.proofs.Changes.SparedLevels.{AreSpared}
use Rattle.levels.proofs.rims.RimLevels.invalidate_above.Given as goal

abbrev pub invariant-loop-x : goal.invariant-loop-x
invariant-loop-x l = AreSpared (IsNoHigher l.most) l.fn.self l.x l.self
