use Rattle.flow_d8.proofs.Prelude.{Begins, IsBeside, IsIn, ℕ, mark_at, slice_index_or, ◌<◌, ◌≡◌}
use Rattle.water.specs.declared.flow.Flow.TheVariants.{Unknown}
use Rattle.flow_d8.proofs.spreading.begin_run.Given as goal

abbrev pub invariant-loop-k : goal.invariant-loop-k
invariant-loop-k l = record {
  begins : Begins l.flows l.fn.marks l.fn.wave.items l.marks l.wave.items;
  here : (j : ℕ) → IsIn l.fn.run j → j < l.k → IsBeside (slice_index_or l.flows j Unknown) → mark_at l.marks j ≡ 0;
}
