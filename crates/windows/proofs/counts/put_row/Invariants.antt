use Rattle.std.proofs.Common.{◌≡◌, ℕ, ◌<◌, ◌≤◌, ◌⊎◌, length, get_or}
use Rattle.windows.specs.Windows.{count_or, point_in}
use Rattle.windows.proofs.counts.put_row.Given as goal

abbrev pub invariant-loop-k : goal.invariant-loop-k
invariant-loop-k l = record {
  whole : length l.into ≡ length l.fn.into;
  put : (i : ℕ) → i < length l.into → l.from ≤ i → i < l.k → get_or l.into i 0 ≡ count_or l.side l.corner l.counts (point_in l.window i) (get_or l.fn.into i 0);
  left : (i : ℕ) → i < length l.into → (i < l.from) ⊎ (l.k ≤ i) → get_or l.into i 0 ≡ get_or l.fn.into i 0;
}
