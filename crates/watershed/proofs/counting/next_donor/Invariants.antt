use Rattle.std.proofs.Common.{◌≡◌, ◌⊎◌, ◌<◌, ◌≤◌, ◌-◌, ℕ, false, IsFalse, get_or}
use Rattle.watershed.proofs.counting.next_donor.Given as goal

abbrev pub invariant-loop-next : goal.invariant-loop-next
invariant-loop-next l = record {
  later : l.from ≤ l.next;
  small : (l.next ≤ 8) ⊎ (l.next ≡ l.from);
  none_before : (k : ℕ) → l.from ≤ k → k < l.next → IsFalse (get_or l.donors k false);
}

abbrev pub decreases-loop-next : goal.decreases-loop-next
decreases-loop-next l = 8 - l.next
