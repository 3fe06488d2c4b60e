use Rattle.std.proofs.Common.{ℕ, ◌<◌}
use Rattle.lattice.specs.Lattice.{IsSampleAt}
use Rattle.windows.specs.Windows.{point_in}
use Rattle.windows.proofs.counts.meets.Given as goal

abbrev pub invariant-loop-row : goal.invariant-loop-row
invariant-loop-row l = (i j k : ℕ) → i < l.row → k < l.len → ¬ IsSampleAt l.side l.corner i j (point_in l.window k)
