use Rattle.flow_d8.proofs.Prelude.{IsOfFlat, ℕ, mark_at, slice_index_or, ◌+◌, ◌<◌, ◌≡◌, ◌≤◌}
use Rattle.water.specs.declared.flow.Flow.TheVariants.{Unknown}
use Rattle.flow_d8.proofs.collecting.first_free.Given as goal

abbrev pub invariant-loop-back : goal.invariant-loop-back
invariant-loop-back l = record {
  free : (k : ℕ) → l.to ≤ k + l.back → k < l.to → mark_at l.marks k ≡ 3;
  flat : (k : ℕ) → l.to ≤ k + l.back → k < l.to → IsOfFlat (slice_index_or l.flows k Unknown);
}
