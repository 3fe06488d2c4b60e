use Rattle.flow_d8.proofs.Prelude.{ℕ, length, mark_at, ◌+◌, ◌<◌, ◌≡◌, ◌≤◌}
use Rattle.flow_d8.proofs.marks.Marks.resize.Given as goal

abbrev pub invariant-loop-i : goal.invariant-loop-i
invariant-loop-i l = record {
  whole : length l.self ≡ l.count;
  kept : (j : ℕ) → j < l.count → (length l.fn.self + l.i ≤ j → length l.fn.self + 32 ≤ j) → mark_at l.self j ≡ mark_at l.fn.self j;
}
