use Rattle.flow_d8.proofs.Prelude.{IsIn, IsMember, ℕ, length, no_run, slice_index_or, ◌<◌, ◌≡◌, ◌≤◌}
use Rattle.flow_d8.proofs.marks.clear.Given as goal

abbrev pub invariant-loop-i : goal.invariant-loop-i
invariant-loop-i l = record {
  whole : length l.marks ≡ length l.fn.marks;
  left : (k : ℕ) → IsMember l.marks k → (j : ℕ) × ((l.i ≤ j) × ((j < length l.runs) × IsIn (slice_index_or l.runs j no_run) k));
}
