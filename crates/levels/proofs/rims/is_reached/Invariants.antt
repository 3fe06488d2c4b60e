use Rattle.levels.proofs.Prelude.{AreSparing, take}
use Rattle.levels.proofs.rims.is_reached.Given as goal

abbrev pub invariant-loop-height : goal.invariant-loop-height
invariant-loop-height l = AreSparing (take l.height-index l.heights) l.level
