use Rattle.std.proofs.Common.{◌≡◌, ℕ, ◌<◌, length, get_or}
use Rattle.windows.specs.Windows.{IsMark, point_in}
use Rattle.windows.proofs.Marks.{CoverTo}
use Rattle.windows.proofs.shed.mark.Given as goal

abbrev pub invariant-loop-at : goal.invariant-loop-at
invariant-loop-at l = record {
  whole : length l.into ≡ length l.fn.into;
  marked : (k : ℕ) → k < length l.into → IsMark (CoverTo l.runs l.at (point_in l.window k)) (get_or l.into k 0);
}
