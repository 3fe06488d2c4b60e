use Rattle.flow_d8.proofs.Prelude.{Dir, IfNone, IsIn, SampleRun, arith, cases_eq, inl, inr, length, no_run, slice_index_or, subst, ℕ, ◌<◌, ◌∙◌}
use Rattle.flow_d8.specs.Members.{IsSettledBeside}
use Rattle.flow_d8.proofs.Waves.Runs.{found_listed, settled_on}
use Rattle.flow_d8.proofs.collecting.Members.collect.Goals as goal

pub returns-in-Some-clause-listed : goal.returns-in-Some-clause-listed
returns-in-Some-clause-listed c = found_listed c.args.known.now c.visit_run.new.self c.in_ok-met.ensures.grows.found

pub returns-clause-listed : goal.returns-clause-listed
returns-clause-listed c = found_listed c.args.known.now c.runs.self c.runs.invariant.found

pub runs-preserved : goal.runs-preserved
runs-preserved c =
    let was = c.runs.invariant in
    let known = c.args.known.now in
    let old = c.runs.self in
    let new = c.visit_run.new.self in
    let grows = c.in_ok-met.ensures.grows in
    let small : c.runs.i < length old.runs.items = omega (arith, c.runs-test.true, c.len.ensures) in
    let settled : (k : ℕ) (d : Dir) → IsIn (slice_index_or old.runs.items c.runs.i no_run) k → IsSettledBeside known new k d =
    subst (λ o. IfNone o ((k : ℕ) (d : Dir) → IsIn (slice_index_or old.runs.items c.runs.i no_run) k → IsSettledBeside known new k d)) c.in_default.is c.in_ok-met.ensures.settled in
    let before : (j k : ℕ) → j < length old.runs.items → IsIn (slice_index_or new.runs.items j no_run) k → IsIn (slice_index_or old.runs.items j no_run) k = λ j k less. subst (λ (r : SampleRun). IsIn r k) (grows.runs j less).1 in
    record {
      seed = grows.seed ∙ was.seed;
      begun = grows.kept c.args.self.now.seed was.begun;
      found = grows.found;
      within = omega (arith, (grows.runs c.runs.i small).0);
      settled = λ j k d less in_it. elim (cases_eq j c.runs.i) [
        | inl same ↦ settled k d (before c.runs.i k small (subst (λ n. IsIn (slice_index_or new.runs.items n no_run) k) same in_it))
        | inr other ↦ settled_on known old new grows k d (was.settled j k d (omega arith) (before j k (omega (arith, small)) in_it))
      ];
    }
