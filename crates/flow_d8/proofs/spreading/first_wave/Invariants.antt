use Rattle.flow_d8.proofs.Prelude.{Begins, IsBeside, IsIn, ℕ, mark_at, no_run, slice_index_or, ◌<◌, ◌≡◌}
use Rattle.water.specs.declared.flow.Flow.TheVariants.{Unknown}
use Rattle.flow_d8.proofs.spreading.first_wave.Given as goal

abbrev pub invariant-loop-i : goal.invariant-loop-i
invariant-loop-i l = record {
  begins : Begins l.flows l.fn.marks l.initial.wave.items l.marks l.wave.items;
  here : (j k : ℕ) → j < l.i → IsIn (slice_index_or l.runs j no_run) k → IsBeside (slice_index_or l.flows k Unknown) → mark_at l.marks k ≡ 0;
}
