use Rattle.std.proofs.Common.{ℤ, take, Some}
use Rattle.levels.proofs.Prelude.{AreSparing, IsIn, IsSample}
use Rattle.levels.proofs.rims.reached_range.Given as goal

abbrev pub invariant-loop-height : goal.invariant-loop-height
invariant-loop-height l = (level : ℤ) → IsSample level → (IsIn (Some l.range) level → ⊥) → AreSparing (take l.height-index l.heights) level
