use Rattle.store.proofs.Prelude.{Device, Err, HasRisen, IsQueried, NoMemory, None, Ok, Refusal, Result, Vec, ℕ, ap, failing, never_refused, refl, refused_as, sym, tile_at_corner, true≢false, ◌∙◌, ◌≡◌}
use Rattle.engine.proofs.Questions.{export_asked}
use Rattle.stored_mosaic.proofs.Reading.Querying.{queried_by_disk, stays_at, still_clean, still_at, failing_at, fails_so}
use Rattle.store.proofs.Reading.AskedTrees.{no_tile}
use Rattle.stored_mosaic.proofs.Reading.QueryingPages.{tile, tile_of, exported}
use Rattle.store.proofs.Calls.StoreCalls.{asked, asked_in_vain, refused_it}
use Rattle.store.proofs.store.Store.export.Goals as goal

pub returns-in_err-check_present-clause-call : goal.returns-in_err-check_present-clause-call
returns-in_err-check_present-clause-call g c =
    no_tile g.D.Disk g.met.D.Disk.only_now c.args.self.now (export_asked c.args.corner) refl c.args.corner c.in_ok-check_working.ensures.works (λ s is. is)
    c.from_residual-in_err-check_present.result c.in_err-check_present.field-0.0 c.from_residual-in_err-check_present.ensures.1 c.in_err-check_present.ensures.refused

pub returns-in_default-clause-call : goal.returns-in_default-clause-call
returns-in_default-clause-call g c =
    let d = g.D.Disk in
    let store = c.args.self.now in
    let works = c.in_ok-check_working.ensures.works in
    refused_it d g.met.D.Disk.only_now store (export_asked c.args.corner) works NoMemory (λ e. cc) (λ e. cc) refl (λ honest s at. stays_at d store.tree works s at.in_state)

pub invariant_of-self : goal.invariant_of-self
invariant_of-self g c =
    let d = g.D.Disk in
    let old = c.args.self.now in
    let new = c.read_plane.new.tree in
    let keeps = c.read_plane.ensures.reads.keeps in
    record { clean = still_clean d old.tree new c.in_ok-check_working.ensures.works keeps old.clean }

pub read_plane-requires-clause-held : goal.read_plane-requires-clause-held
read_plane-requires-clause-held g c = tile_at_corner c.args.corner c.args.self.now.tree.page_map.staged c.in_ok-check_present.ensures.present

pub returns-in_err-read_plane-clause-call : goal.returns-in_err-read_plane-clause-call
returns-in_err-read_plane-clause-call g c =
    let d = g.D.Disk in
    let old = c.args.self.now.tree in
    let new = c.read_plane.new.tree in
    let works = c.in_ok-check_working.ensures.works in
    let reads = c.in_err-read_plane.ensures.reads in
    let result : Result (Vec ℕ) Refusal = c.from_residual-in_err-read_plane.result in
    let device : c.in_err-read_plane.field-0.0 ≡ Device = reads.only_device works in
    let risen : HasRisen (d.failures old.roots.disk) (d.failures new.roots.disk) = reads.device (ap (λ (r : Refusal). Err r) device) in
    let is : IsQueried {T = Vec ℕ} d old new (Err Device) = queried_by_disk d old new works reads.keeps (Err Device) (λ _. risen) tt (λ now. true≢false (sym reads.failed ∙ now)) refl in
    asked_in_vain d c.args.self.now _ (export_asked c.args.corner) refl result
    (refused_as result c.in_err-read_plane.field-0.0 c.from_residual-in_err-read_plane.ensures.1 ∙ ap (λ (r : Refusal). Err r) device) is
    (λ honest s at. (
      failing s None,
      (record { in_state = failing_at d old new works reads.keeps honest s at.in_state reads.failed; right = at.right }, fails_so d old new works reads.keeps honest s at.in_state),
    ))

pub returns-clause-call : goal.returns-clause-call
returns-clause-call g c =
    let d = g.D.Disk in
    let old = c.args.self.now.tree in
    let new = c.read_plane.new.tree in
    let works = c.in_ok-check_working.ensures.works in
    let present = c.in_ok-check_present.ensures.present in
    let reads = c.in_ok-read_plane.ensures.reads in
    let bytes : Vec ℕ = c.read_plane.new.bytes in
    let is : IsQueried {T = Vec ℕ} d old new (Ok bytes) = queried_by_disk d old new works reads.keeps (Ok bytes) (λ is. absurd (never_refused bytes Device is)) reads.not_failed tt tt in
    asked d c.args.self.now _ (export_asked c.args.corner) (Ok bytes) tt is
    (λ honest s at.
    let read = c.in_ok-read_plane.ensures.bytes honest (tile d old works s at.in_state c.args.corner present) _ (tile_of d old works s at.in_state c.args.corner present) refl in (
      s,
      (
        record { in_state = still_at d old new works reads.keeps honest s at.in_state reads.not_failed; right = at.right },
        (stays_at d old works s at.in_state, exported d old works s at.in_state c.args.corner present bytes.items read),
      ),
    ))
