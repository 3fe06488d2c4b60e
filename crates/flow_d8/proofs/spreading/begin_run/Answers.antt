use Rattle.flow_d8.proofs.Prelude.{IsBeside, arith, cases_eq, inl, inr, mark_at, slice_index_or, subst, sym, ◌≡◌}
use Rattle.water.specs.declared.flow.Flow.TheVariants.{Unknown}
use Rattle.flow_d8.proofs.Waves.Starting.{begins_on, zero_on}
use Rattle.flow_d8.proofs.spreading.begin_run.Goals as goal

pub returns-in_err-begin_at-clause-begins : goal.returns-in_err-begin_at-clause-begins
returns-in_err-begin_at-clause-begins c = begins_on c.args.flows.now c.args.marks.now c.args.wave.now.items c.loop-k.marks c.loop-k.wave.items c.loop-k.invariant.begins c.begin_at.new.marks c.begin_at.new.wave.items c.begin_at.ensures.begins

pub loop-k-preserved : goal.loop-k-preserved
loop-k-preserved c =
    let was = c.loop-k.invariant in
    record {
      begins = begins_on c.args.flows.now c.args.marks.now c.args.wave.now.items c.loop-k.marks c.loop-k.wave.items was.begins c.begin_at.new.marks c.begin_at.new.wave.items c.begin_at.ensures.begins;
      here = λ j at less beside. elim (cases_eq j c.loop-k.k) [
        | inl same ↦ subst (λ n. mark_at c.begin_at.new.marks n ≡ 0) (sym same) (c.in_ok-begin_at.ensures.here (subst (λ n. IsBeside (slice_index_or c.args.flows.now n Unknown)) same beside))
        | inr other ↦ zero_on c.args.flows.now c.loop-k.marks c.loop-k.wave.items c.begin_at.new.marks c.begin_at.new.wave.items c.begin_at.ensures.begins j (was.here j at (omega arith) beside)
      ];
    }
