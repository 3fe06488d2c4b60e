use Rattle.store.proofs.Prelude.{IfOk-weaker, IsQueried, Mosaic, Refusal, Result, State, ap, height_of, refl, ◌∙◌}
use Rattle.lattice.specs.declared.height.Height.{Height}
use Rattle.engine.specs.Outcomes.{Elevates}
use Rattle.engine.specs.declared.event.Event.TheVariants as ask
use Rattle.engine.proofs.Questions.{elevation_asked}
use Rattle.stored_mosaic.proofs.Reading.Querying.{mosaic_at, stays_at, still_clean, still_readable, fails_so, queried_by_disk, risen_for}
use Rattle.store.proofs.Reading.QueryingHeld.{answered}
use Rattle.store.proofs.Calls.StoreCalls.{asked, only_device_may}
use Rattle.store.proofs.store.Store.elevation.Goals as goal

pub invariant_of-self : goal.invariant_of-self
invariant_of-self g c =
    let d = g.D.Disk in
    let old = c.args.self.now in
    let new = c.height.new.samples in
    let keeps = c.height.ensures.reads.keeps in
    record { clean = still_clean d old.tree new c.in_ok-check_working.ensures.works keeps old.clean }

pub returns-clause-call : goal.returns-clause-call
returns-clause-call g c =
    let d = g.D.Disk in
    let old = c.args.self.now.tree in
    let new = c.height.new.samples in
    let works = c.in_ok-check_working.ensures.works in
    let reads = c.height.ensures.reads in
    let is : IsQueried d old new c.height.result =
    queried_by_disk d old new works reads.keeps c.height.result (risen_for c.height.result _ _ reads.refusal) (reads.ready works) reads.unready (reads.only_device works) in
    asked d c.args.self.now _ (elevation_asked c.args.point) c.height.result (only_device_may (ask.Elevation c.args.point) refl c.height.result (reads.only_device works)) is
    (λ honest s at.
    answered d old new works reads.keeps honest s at.in_state c.args.self.now.held at.right (λ (s : State) (r : Result Height Refusal) (t : State). Elevates s c.args.point r t) c.height.result (reads.ready works) reads.unready (reads.only_device works)
    (fails_so d old new works reads.keeps honest s at.in_state)
    (IfOk-weaker c.height.result _ _ (λ h is. (stays_at d old works s at.in_state, is ∙ ap (λ (m : Mosaic). height_of m c.args.point) (mosaic_at d old works s at.in_state)))
    (c.height.ensures.value (still_readable d old new works reads.keeps honest s at.in_state))))
