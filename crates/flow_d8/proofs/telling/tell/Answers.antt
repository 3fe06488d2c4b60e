use Rattle.flow_d8.proofs.Prelude.{IsIn, SampleRun, ap, arith, cases_eq, inl, inr, no_run, slice_index_or, subst}
use Rattle.flow_d8.proofs.Samples.TwinFlows.{tells_on}
use Rattle.flow_d8.proofs.telling.tell.Goals as goal

pub tell_run-requires-clause-small : goal.tell_run-requires-clause-small
tell_run-requires-clause-small c k in_it = omega (arith, c.loop-i.invariant.tells.whole, c.requires.small k (c.loop-i.i, (c.loop-i-test.true, in_it)))

pub loop-i-preserved : goal.loop-i-preserved
loop-i-preserved c =
    let was = c.loop-i.invariant in
    let by = c.tell_run.ensures in
    record {
      tells = tells_on c.args.flows.now c.loop-i.flows c.tell_run.new.flows was.tells by.tells;
      facts = λ t level so. by.facts t level (was.facts t level so);
      twins = λ j k e less in_it told sample flat. elim (cases_eq j c.loop-i.i) [
        | inl same ↦ by.twins k e (subst (λ (r : SampleRun). IsIn r k) (ap (λ i. slice_index_or c.args.runs.now i no_run) same) in_it) (was.tells.told k told) sample (was.tells.flat e flat)
        | inr other ↦ by.tells.told e (was.twins j k e (omega arith) in_it told sample flat)
      ];
    }
