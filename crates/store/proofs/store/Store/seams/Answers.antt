use Rattle.store.proofs.Prelude.{CountsSeams, IfOk-weaker, Mosaic, Refusal, Result, State, ℕ, subst}
use Rattle.catalogue.specs.Seams.{IsSeamCount}
use Rattle.stored_mosaic.proofs.Reading.Querying.{mosaic_at, stays_at, still_clean, still_readable, fails_so}
use Rattle.store.proofs.Reading.QueryingHeld.{answered}
use Rattle.store.proofs.store.Store.seams.Goals as goal

pub invariant_of-self : goal.invariant_of-self
invariant_of-self g c =
    let d = g.D.Disk in
    let old = c.args.self.now in
    let new = c.seams.new.samples in
    let keeps = c.seams.ensures.reads.keeps in
    record { clean = still_clean d old.tree new c.in_ok-check_working.ensures.works keeps old.clean }

pub returns-clause-outcome : goal.returns-clause-outcome
returns-clause-outcome g c honest s at =
    let d = g.D.Disk in
    let old = c.args.self.now.tree in
    let new = c.seams.new.samples in
    let works = c.in_ok-check_working.ensures.works in
    let reads = c.seams.ensures.reads in
    let readable = still_readable d old new works reads.keeps honest s at.in_state in
    answered d old new works reads.keeps honest s at.in_state c.args.self.now.held at.right (λ (s : State) (r : Result ℕ Refusal) (t : State). CountsSeams s r t) c.seams.result (reads.ready works) reads.unready (reads.only_device works)
    (fails_so d old new works reads.keeps honest s at.in_state) (IfOk-weaker c.seams.result _ _ (λ count is. (stays_at d old works s at.in_state, subst (λ (m : Mosaic). IsSeamCount m count) (mosaic_at d old works s at.in_state) is)) (c.seams.ensures.value readable))
