use Rattle.std.proofs.Common.{◌≡◌, ℕ, ◌<◌, ◌⊎◌, length, get_or}
use Rattle.lattice.specs.Lattice.{IsSampleAt}
use Rattle.windows.specs.Windows.{count_or, point_in}
use Rattle.windows.proofs.counts.put_rows.Given as goal

abbrev pub invariant-loop-row : goal.invariant-loop-row
invariant-loop-row l = record {
  whole : length l.into ≡ length l.fn.into;
  put : (k : ℕ) → k < length l.into → (get_or l.into k 0 ≡ count_or l.side l.corner l.counts (point_in l.window k) (get_or l.fn.into k 0))
      ⊎ ((get_or l.into k 0 ≡ get_or l.fn.into k 0) × ((i j : ℕ) → i < l.row → ¬ IsSampleAt l.side l.corner i j (point_in l.window k)));
}
