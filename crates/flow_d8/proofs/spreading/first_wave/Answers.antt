use Rattle.flow_d8.proofs.Prelude.{IsIn, SampleRun, ap, arith, cases_eq, inl, inr, no_run, slice_index_or, subst}
use Rattle.flow_d8.proofs.Waves.Starting.{begins_on, zero_on}
use Rattle.flow_d8.proofs.spreading.first_wave.Goals as goal

pub loop-i-preserved : goal.loop-i-preserved
loop-i-preserved c =
    let was = c.loop-i.invariant in
    record {
      begins = begins_on c.args.flows.now c.args.marks.now c.new-wave.result.items c.loop-i.marks c.loop-i.wave.items was.begins c.begin_run.new.marks c.begin_run.new.wave.items c.begin_run.ensures.begins;
      here = λ j k less at beside. elim (cases_eq j c.loop-i.i) [
        | inl same ↦ c.in_ok-begin_run.ensures.here k (subst (λ (r : SampleRun). IsIn r k) (ap (λ i. slice_index_or c.args.runs.now i no_run) same) at) beside
        | inr other ↦ zero_on c.args.flows.now c.loop-i.marks c.loop-i.wave.items c.begin_run.new.marks c.begin_run.new.wave.items c.begin_run.ensures.begins k (was.here j k (omega arith) at beside)
      ];
    }
