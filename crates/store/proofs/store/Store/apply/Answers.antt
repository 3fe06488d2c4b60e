use Rattle.store.proofs.Prelude.{All, Command, CommitsNothing, Corner, Device, Edit, EntryValue, Err, Ghosts, HasOnlyRead, IfErr-weaker, IfSome, IsApplied, IsHeldOf, IsInState, IsMosaic, IsTrue, List, Mosaic, Ok, Refusal, Result, RootValue, State, StoredTile, Tree, Worn, WritesFew, ℕ, ap, ap₂, arith, both_ways, corners_of, device_or_not, disk_of, effect, false, goes_stale, has_failed, in_memory, inl, inr, is_corner, is_own, map, named_by, never_refused, number_of, on_ok, page_writes, pages_with, refl, refused_as, root_of, sinks_of, staged_in, staled, subst, sym, true, uncommitted_on, ⊎_elim, ◌+◌, ◌<◌, ◌∙◌, ◌≡◌, ◌≤◌}
use Rattle.engine.specs.declared.event.Event.TheVariants as ask
use Rattle.edits.specs.declared.command.Command.TheVariants.{Import, Remove, Patch, Burn, Wall, Sink, Unsink}
use Rattle.edits.specs.declared.edit.Edit.TheVariants as edit
use Rattle.edits.specs.Edits.{IsEditOf, FindsVoids, TellsHeights, edit_made, goes_stale_by}
use Rattle.edits.specs.EffectLaws.{IsCommand}
use Rattle.edits.proofs.AllStale.{near_itself}
use Rattle.stored_mosaic.specs.Editing.{ComesIn, IsGiven, AreTilesOf}
use Rattle.stored_mosaic.proofs.Calls.Committed.{fails_before, quiet, may_end_it}
use Rattle.stored_mosaic.proofs.Edits.EditingReads.{reading, refused_so, risen_read, works_read, fails_read, quiet_read}
use Rattle.stored_mosaic.proofs.Edits.EditingWrites.{named_written, none_written, staged_written}
use Rattle.stored_mosaic.proofs.Reading.Holding.{held}
use Rattle.stored_mosaic.proofs.Reading.InMemory.{is_working, worn_at}
use Rattle.stored_mosaic.proofs.KeptPlanes.Keeping.{staled_held}
use Rattle.stored_mosaic.proofs.Calls.Made.{made_holds}
use Rattle.stored_mosaic.proofs.Reading.Querying.{mosaic_at, still_clean, still_readable, true_where}
use Rattle.stored_mosaic.proofs.Edits.Staged.{none_staged}
use Rattle.store.proofs.Calls.StoreCalls.{commanded}
use Rattle.stored_mosaic.proofs.Edits.Staled.{staled_as}
use Rattle.store.proofs.Reading.WaterHeld.{done_holding, left_by, unchanged_holding}
use Rattle.store.proofs.store.Store.apply.Goals as goal

-- ---- the pages that a burn or a wall writes

pub returns-clause-pages : goal.returns-clause-pages
returns-clause-pages g c works =
    let d = g.D.Disk in
    let old = c.args.self.now.tree in
    let planned = c.edit_of.new.samples in
    let marked = c.mark_stale.new.tree in
    let new = c.commit_staged.new.tree in
    let keeps = c.in_ok-edit.ensures.reads.keeps in
    let marks = c.mark_stale.ensures in
    let version = (root_of old).version in
    let root : root_of marked ≡ root_of old = marks.no_call.root ∙ keeps.root in
    let clean = still_clean d old planned works keeps c.args.self.now.clean (c.in_ok-edit.ensures.reads.ready works) in
    let few =
    named_written d version (root_of old).side marked c.stage-staged.new.tree new c.stage-staged.result (ap (λ (r : RootValue). r.version) root) (let due = marks.due in omega (arith, due, clean.none_due))
    c.commit_staged.ensures.writes c.commit_staged.ensures.unwritten c.args.command.now c.in_ok-edit.edit c.in_ok-edit.ensures.form c.stage-staged.ensures.few in
    subst (λ (n : ℕ). IfSome (named_by c.args.command.now) (λ points. d.writes (disk_of new) ≤ n + page_writes version (pages_with (root_of old).side (map (λ (e : EntryValue). e.corner) (root_of old).entries) points))) (ap d.writes marks.no_call.disk ∙ keeps.writes)
    (subst (λ (cs : List Corner). IfSome (named_by c.args.command.now) (λ points. d.writes (disk_of new) ≤ d.writes (disk_of marked) + page_writes version (pages_with (root_of old).side cs points))) (marks.corners ∙ keeps.corners ∙ (c.args.self.now.clean works).corners)
    (subst (λ (r : RootValue). IfSome (named_by c.args.command.now) (λ points. d.writes (disk_of new) ≤ d.writes (disk_of marked) + page_writes version (pages_with r.side (corners_of marked) points))) root few))

-- ---- refusals of the command's tests or of a read

-- After a read the tiles and the sinks are still the stored ones.
still_there : {D : Type 0} (d : Ghosts D) (old new : Tree D d) → HasOnlyRead d old new → (works : has_failed old ≡ false) → d.honest (disk_of new) → (s : State) → (at : IsInState d old s)
    → (staged_in d new ≡ (at.sound works).stored.tiles) × (sinks_of new ≡ (at.sound works).stored.sinks)
still_there d old new keeps works honest s at = let sound = at.sound works in (keeps.staged honest ∙ sound.nothing_staged, keeps.sinks ∙ sound.none_declared)

pub returns-in_err-edit-clause-call : goal.returns-in_err-edit-clause-call
returns-in_err-edit-clause-call g c =
    let d = g.D.Disk in
    let old = c.args.self.now.tree in
    let new = c.edit_of.new.samples in
    let command = c.args.command.now in
    let r : Refusal = c.in_err-edit.field-0.0 in
    let is = c.in_err-edit.ensures in
    let reads = is.reads in
    let keeps = reads.keeps in
    let works : has_failed old ≡ false = sym c.has_failed.ensures ∙ c.if-has_failed.false in
    let planned : Result Edit Refusal = Err r in
    let capacity : c.capacity-capacity.result ≡ (root_of old).capacity = c.capacity-capacity.ensures.value ∙ ap (λ (x : RootValue). x.capacity) c.current.ensures in
    let read : CommitsNothing d old new planned =
    reading d old new keeps planned (risen_read planned _ _ reads.refusal) (λ is. true_where (has_failed new) (fails_read planned _ reads.unready is)) (works_read planned _ (reads.ready works)) in
    let result_is = refused_as c.from_residual.result r c.from_residual.ensures.1 in
    commanded d g.met.D.Disk.only_now c.args.self.now _ command c.from_residual.result
    (unchanged_holding d old new c.args.self.now.held command c.from_residual.result result_is
    (subst (λ (result : Result ℕ Refusal). IsApplied d command result old new) (sym result_is)
    (⊎_elim
    (λ device.
    subst (λ (x : Refusal). IsApplied d command (Err x) old new) (sym device) (fails_before d old new command works planned read (ap (λ (x : Refusal). let e : Result Edit Refusal = Err x in e) device)))
    (λ other.
    let goes_on = quiet_read planned _ (reads.only_device works) (reads.ready works) other in
    quiet d old new command works planned read goes_on.1 (still_there d old new keeps works) r other goes_on.0 (may_end_it command r is.causes) keeps.writes
    (λ honest s at.
    refused_so (root_of old).capacity s command planned (is_working d old works s at) is.causes (reads.only_device works)
    (subst (λ (n : ℕ). IsTrue (is_own command r) → effect n s.contents.mosaic command ≡ Err r) capacity
    (subst (λ (m : Mosaic). IsTrue (is_own command r) → effect c.capacity-capacity.result m command ≡ Err r) (mosaic_at d old works s at)
    (is.refused (still_readable d old new works keeps honest s at)))) other))
    (device_or_not r))))
    (none_written (number_of (root_of old).version) (root_of old).side command (d.writes (disk_of old)) (d.writes (disk_of new)) keeps.writes) (λ had. absurd (both_ways (has_failed old) works had))

-- ---- the commit number can't grow

pub returns-then-number-clause-call : goal.returns-then-number-clause-call
returns-then-number-clause-call g c =
    let d = g.D.Disk in
    let old = c.args.self.now.tree in
    let new = c.edit_of.new.samples in
    let command = c.args.command.now in
    let made : Edit = c.in_ok-edit.edit in
    let is = c.in_ok-edit.ensures in
    let keeps = is.reads.keeps in
    let works : has_failed old ≡ false = sym c.has_failed.ensures ∙ c.if-has_failed.false in
    let now_works : has_failed new ≡ false = is.reads.ready works in
    let capacity : c.capacity-capacity.result ≡ (root_of old).capacity = c.capacity-capacity.ensures.value ∙ ap (λ (x : RootValue). x.capacity) c.current.ensures in
    let planned : Result Edit Refusal = Ok made in
    commanded d g.met.D.Disk.only_now c.args.self.now _ command (Err Worn)
    (unchanged_holding d old new c.args.self.now.held command (Err Worn) refl
    (quiet d old new command works planned (reading d old new keeps planned (λ refused. never_refused made Device refused) (λ refused. absurd (never_refused made Device refused)) now_works) now_works
    (still_there d old new keeps works) Worn (λ e. cc) (λ e. cc) refl keeps.writes
    (λ honest s at. worn_at d old works s at command (edit_made made s.contents.mosaic)
    (subst (λ (n : ℕ). effect n s.contents.mosaic command ≡ Ok (edit_made made s.contents.mosaic)) capacity
    (subst (λ (m : Mosaic). effect c.capacity-capacity.result m command ≡ Ok (edit_made made m)) (mosaic_at d old works s at) (is.made (still_readable d old new works keeps honest s at))))
    (sym (ap (λ (r : RootValue). r.number) (c.current-2.ensures ∙ keeps.root)) ∙ sym c.number.ensures ∙ c.if-number.true))))
    (none_written (number_of (root_of old).version) (root_of old).side command (d.writes (disk_of old)) (d.writes (disk_of new)) keeps.writes) (λ had. absurd (both_ways (has_failed old) works had))

-- ---- the staged pages

-- If an edit of the command is possible, so is the command.
given_as : (command : Command) (made : Edit) → IsEditOf command made → IsGiven made → IsCommand command
given_as (Import c bytes) (edit.Add e own) form given = (subst (λ (x : Corner). IsTrue (is_corner x)) (sym form.0) given.0, subst (λ (l : List ℕ). All (λ b. b < 256) l) (sym form.1) given.1)
given_as (Import c bytes) _ form given = absurd form
given_as (Remove c) made form given = tt
given_as (Patch from to h) made form given = tt
given_as (Burn depth points) made form given = tt
given_as (Wall h points) made form given = tt
given_as (Sink p) made form given = tt
given_as (Unsink p) made form given = tt

-- An added tile is stale.
comes_stale : (m : Mosaic) (command : Command) (made : Edit) (c : Corner) → IsEditOf command made → ComesIn made c → goes_stale m command c ≡ true
comes_stale m (Import c bytes) (edit.Add e own) corner form comes = ap₂ (λ (x y : Corner). goes_stale m (Import x bytes) y) (form.0 ∙ comes) refl ∙ near_itself corner
comes_stale m (Import c bytes) _ corner form comes = absurd form
comes_stale m (Remove c) (edit.Drop e) corner form comes = absurd comes
comes_stale m (Remove c) _ corner form comes = absurd form
comes_stale m (Patch from to h) (edit.Voids f t k tiles) corner form comes = absurd comes
comes_stale m (Patch from to h) _ corner form comes = absurd form
comes_stale m (Burn depth points) (edit.Heights heights) corner form comes = absurd comes
comes_stale m (Burn depth points) _ corner form comes = absurd form
comes_stale m (Wall h points) (edit.Heights heights) corner form comes = absurd comes
comes_stale m (Wall h points) _ corner form comes = absurd form
comes_stale m (Sink p) (edit.Sink q h) corner form comes = absurd comes
comes_stale m (Sink p) _ corner form comes = absurd form
comes_stale m (Unsink p) (edit.Unsink q h) corner form comes = absurd comes
comes_stale m (Unsink p) _ corner form comes = absurd form

same_made : (a b : Mosaic) → ◌≡◌ {A = Result Mosaic Refusal} (Ok a) (Ok b) → a ≡ b
same_made a b e = cc

pub returns-clause-call : goal.returns-clause-call
returns-clause-call g c =
    let d = g.D.Disk in
    let old = c.args.self.now.tree in
    let planned = c.edit_of.new.samples in
    let marked = c.mark_stale.new.tree in
    let mid = c.stage-staged.new.tree in
    let command = c.args.command.now in
    let made : Edit = c.in_ok-edit.edit in
    let is = c.in_ok-edit.ensures in
    let keeps = is.reads.keeps in
    let works : has_failed old ≡ false = sym c.has_failed.ensures ∙ c.if-has_failed.false in
    let now_works : has_failed planned ≡ false = is.reads.ready works in
    let capacity : c.capacity-capacity.result ≡ (root_of old).capacity = c.capacity-capacity.ensures.value ∙ ap (λ (x : RootValue). x.capacity) c.current.ensures in
    let marks = c.mark_stale.ensures in
    let stages = c.stage-staged.ensures in
    let result : Result ℕ Refusal = c.commit_staged.result in
    let nothing : Unit {0} = tt in
    let read : Result Edit Refusal = Ok made in
    let gives_up : CommitsNothing d old marked (Ok nothing) =
    uncommitted_on d old planned marked made (Ok nothing) (reading d old planned keeps read (λ refused. never_refused made Device refused) (λ refused. absurd (never_refused made Device refused)) now_works)
    (in_memory d planned marked (Ok nothing) g.met.D.Disk.only_now marks.no_call now_works (λ _. marks.at) (λ refused. never_refused nothing Device refused)) in
    let clean = still_clean d old planned works keeps c.args.self.now.clean now_works in
    let few =
    staged_written d (root_of old).version (root_of old).side marked mid c.commit_staged.new.tree c.stage-staged.result (ap (λ (r : RootValue). r.version) (marks.no_call.root ∙ keeps.root)) (let due = marks.due in omega (arith, due, clean.none_due))
    c.commit_staged.ensures.writes c.commit_staged.ensures.unwritten command made is.form stages.few in
    commanded d g.met.D.Disk.only_now c.args.self.now _ command result
    (done_holding d old c.commit_staged.new.tree c.args.self.now.held c.invalidate_edit.new.held command result
    (λ honest s at right.
    let sound = at.sound works in
    let m : Mosaic = s.contents.mosaic in
    let planned_honest = subst d.honest marks.no_call.disk (stages.uncommitted.returns.honest (c.commit_staged.ensures.honest honest)) in
    let same_m = mosaic_at d old works s at in
    let makes : effect (root_of old).capacity m command ≡ Ok (edit_made made m) =
    subst (λ (n : ℕ). effect n m command ≡ Ok (edit_made made m)) capacity
    (subst (λ (x : Mosaic). effect c.capacity-capacity.result x command ≡ Ok (edit_made made x)) same_m (is.made (still_readable d old planned works keeps planned_honest s at))) in
    let tells : TellsHeights m made = subst (λ (x : Mosaic). TellsHeights x made) same_m (is.heights (still_readable d old planned works keeps planned_honest s at)) in
    left_by (root_of old).capacity m command result c.invalidate_edit.new.held (c.invalidate_edit.ensures.still m sound.holds.valid right)
    (λ x is_x. subst (λ (y : Mosaic). IsHeldOf y c.invalidate_edit.new.held) (same_made (edit_made made m) x (sym makes ∙ is_x)) (c.invalidate_edit.ensures.changed m sound.holds.valid tells right)))
    (c.commit_staged.ensures.command old command (record {
      working = works;
      uncommitted = uncommitted_on d old marked mid nothing c.stage-staged.result gives_up stages.uncommitted;
      refused = IfErr-weaker c.stage-staged.result _ _ (λ r. ⊎_elim (λ device. inl device) (λ no_room. inr (no_room.0, no_room.1, no_room.2 ∙ ap d.writes marks.no_call.disk ∙ keeps.writes))) stages.refused;
      next = λ honest s at.
          let sound = at.sound works in
          let m : Mosaic = s.contents.mosaic in
          let marked_honest = stages.uncommitted.returns.honest honest in
          let planned_honest = subst d.honest marks.no_call.disk marked_honest in
          let sure = still_readable d old planned works keeps planned_honest s at in
          let same_m = mosaic_at d old works s at in
          let root : root_of marked ≡ root_of old = marks.no_call.root ∙ keeps.root in
          let side : (root_of marked).side ≡ (root_of old).side = ap (λ (r : RootValue). r.side) root in
          let makes : effect (root_of old).capacity m command ≡ Ok (edit_made made m) =
          subst (λ (n : ℕ). effect n m command ≡ Ok (edit_made made m)) capacity
          (subst (λ (x : Mosaic). effect c.capacity-capacity.result x command ≡ Ok (edit_made made x)) same_m (is.made sure)) in
          let finds : FindsVoids m made = subst (λ (x : Mosaic). FindsVoids x made) same_m (is.voids sure) in
          let test : (p : Corner) → goes_stale_by (root_of planned).side (corners_of planned) made p ≡ goes_stale m command p =
          λ p. ap₂ (λ (n : ℕ) (cs : List Corner). goes_stale_by n cs made p) (ap (λ (r : RootValue). r.side) keeps.root) keeps.corners
          ∙ is.stale sure p ∙ ap (λ (x : Mosaic). goes_stale x command p) same_m in
          let before : List StoredTile = staled (goes_stale m command) sound.stored.tiles in
          let now : staged_in d marked ≡ before =
          marks.staged ∙ staled_as (goes_stale_by (root_of planned).side (corners_of planned) made) (goes_stale m command) (staged_in d planned) (λ t there. test t.corner)
          ∙ ap (staled (goes_stale m command)) (keeps.staged planned_honest ∙ sound.nothing_staged) in
          let marked_at = marks.at sound.stored (keeps.at planned_honest sound.stored sound.tree now_works) in
          let tiles : AreTilesOf (root_of marked).side (staged_in d marked) m =
          subst (λ (n : ℕ). AreTilesOf n (staged_in d marked) m) (sym side)
          (subst (λ (ts : List StoredTile). AreTilesOf (root_of old).side ts m) (sym now)
          (staled_held (root_of old).side (goes_stale m command) sound.stored.tiles m (held (root_of old).side (root_of old).capacity sound.stored s.contents sound.holds))) in
          let sinks = marks.sinks ∙ keeps.sinks ∙ sound.none_declared ∙ sound.holds.sinks in
          let valid : IsMosaic (edit_made made m) =
          c.commands_make_mosaics.ensures.mosaic (root_of old).capacity m command (edit_made made m) sound.holds.valid (given_as command made is.form stages.given) makes in
          on_ok c.stage-staged.result
          (λ so. made_holds d old marked mid works command s at made makes valid side now (λ corner comes. comes_stale m command made corner is.form comes) so)
          (stages.made honest sound.stored m marked_at sound.holds.valid tiles sinks finds);
    })))
    (subst (λ (n : ℕ). WritesFew (number_of (root_of old).version) (root_of old).side (ask.Do command) n (d.writes (disk_of c.commit_staged.new.tree))) (ap d.writes marks.no_call.disk ∙ keeps.writes) few)
    (λ had. absurd (both_ways (has_failed old) works had))

-- ---- the premises of staging

pub stage-staged-requires-clause-unstaged : goal.stage-staged-requires-clause-unstaged
stage-staged-requires-clause-unstaged g c =
    let d = g.D.Disk in
    let old = c.args.self.now.tree in
    let works : has_failed old ≡ false = sym c.has_failed.ensures ∙ c.if-has_failed.false in
    let clean = still_clean d old c.edit_of.new.samples works c.in_ok-edit.ensures.reads.keeps c.args.self.now.clean (c.in_ok-edit.ensures.reads.ready works) in
    none_staged d c.mark_stale.new.tree (let due = c.mark_stale.ensures.due in omega (arith, due, clean.none_due))

pub invariant_of-self : goal.invariant_of-self
invariant_of-self g c = record {
  clean = still_clean g.D.Disk c.args.self.now.tree c.edit_of.new.samples (sym c.has_failed.ensures ∙ c.if-has_failed.false) c.in_err-edit.ensures.reads.keeps c.args.self.now.clean;
}

pub invariant_of-self-then-number : goal.invariant_of-self-then-number
invariant_of-self-then-number g c = record {
  clean = still_clean g.D.Disk c.args.self.now.tree c.edit_of.new.samples (sym c.has_failed.ensures ∙ c.if-has_failed.false) c.in_ok-edit.ensures.reads.keeps c.args.self.now.clean;
}
