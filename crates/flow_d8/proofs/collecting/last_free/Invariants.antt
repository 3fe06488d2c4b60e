use Rattle.flow_d8.proofs.Prelude.{IsOfFlat, ℕ, mark_at, slice_index_or, ◌+◌, ◌<◌, ◌≡◌, ◌≤◌}
use Rattle.water.specs.declared.flow.Flow.TheVariants.{Unknown}
use Rattle.flow_d8.proofs.collecting.last_free.Given as goal

abbrev pub invariant-loop-on : goal.invariant-loop-on
invariant-loop-on l = record {
  free : (k : ℕ) → l.from < k → k ≤ l.from + l.on → mark_at l.marks k ≡ 3;
  flat : (k : ℕ) → l.from < k → k ≤ l.from + l.on → IsOfFlat (slice_index_or l.flows k Unknown);
}
