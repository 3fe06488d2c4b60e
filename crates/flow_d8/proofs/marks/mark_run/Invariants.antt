use Rattle.flow_d8.proofs.Prelude.{IsIn, ℕ, length, mark_at, sum, ◌+◌, ◌-◌, ◌<◌, ◌≡◌, ◌≤◌}
use Rattle.flow_d8.proofs.marks.mark_run.Given as goal

abbrev pub invariant-loop-k : goal.invariant-loop-k
invariant-loop-k l = record {
  whole : length l.marks ≡ length l.fn.marks;
  here : (j : ℕ) → l.fn.run.first ≤ j → j < l.k → mark_at l.marks j ≡ l.mark;
  others : (j : ℕ) → (IsIn l.fn.run j → ⊥) → mark_at l.marks j ≡ mark_at l.fn.marks j;
  later : (j : ℕ) → l.k ≤ j → mark_at l.marks j ≡ mark_at l.fn.marks j;
  fewer : l.mark < 3 → ((j : ℕ) → IsIn l.fn.run j → mark_at l.fn.marks j ≡ 3) → sum l.marks + (l.k - l.fn.run.first) ≤ sum l.fn.marks;
}
