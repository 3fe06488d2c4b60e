use Rattle.std.proofs.Common.{◌≡◌, ℕ, ◌<◌, ◌≤◌, ◌⊎◌, length, get_or}
use Rattle.windows.proofs.shed.mark_run.Given as goal

abbrev pub invariant-loop-k : goal.invariant-loop-k
invariant-loop-k l = record {
  whole : length l.into ≡ length l.fn.into;
  marked : (i : ℕ) → i < length l.into → l.from ≤ i → i < l.k → get_or l.into i 0 ≡ 1;
  left : (i : ℕ) → i < length l.into → (i < l.from) ⊎ (l.k ≤ i) → get_or l.into i 0 ≡ get_or l.fn.into i 0;
}
