use Rattle.store.proofs.Prelude.{Err, IfErr, IfErr-weaker, IsAt, Ok, OnErr, Refusal, Result, RootValue, State, ap, has_failed, refl, root_of, true, ⊎_elim, ◌≡◌}
use Rattle.cow_tree.proofs.Steps.{either_way, on_ok_both}
use Rattle.stored_mosaic.proofs.Calls.Opened.{in_known, sized_as_known, refused_for}
use Rattle.store.proofs.Calls.Reopening.{reopened}
use Rattle.stored_mosaic.proofs.Calls.States.{fails_in}
use Rattle.store.proofs.Reading.WaterHeld.{known_holding}
use Rattle.store.proofs.store.Store.reopen.Goals as goal

on_err : {T X : Type 0} (result : Result T Refusal) (A B : Type 0) → OnErr result A → OnErr result B → (A → B → X) → IfErr result (λ r. X)
on_err (Ok x) A B first second both = tt
on_err (Err r) A B first second both = both first second

pub returns-clause-call : goal.returns-clause-call
returns-clause-call g c =
    let d = g.D.Disk in
    let store = c.args.self.now in
    let old = store.tree in
    let new = c.reopen.new.self in
    let does = c.reopen.ensures in
    let result = c.reopen.result in
    let seen = d.seen old.roots.disk in
    let n = d.size old.roots.disk in
    let stood = λ (honest : d.honest new.roots.disk) (s : State) (at : IsAt d store s). at.in_state.images seen (g.met.D.Disk.seen_may old.roots.disk (does.nothing honest).honest) in
    reopened d store _ result does.size does.writes does.later does.refusals does.device does.nothing does.not_failed does.failed does.last_known
    (λ honest s at.
    either_way result (does.at honest) does.last_known
    (λ is. sized_as_known d new is.0 is.1.1.0 is.1.1.1 (g.met.D.Disk.seen_may new.roots.disk honest) old.roots.root.side old.roots.root.capacity n seen s is.1.0 (stood honest s at))
    (λ same. (ap (λ (r : RootValue). r.side) same, ap (λ (r : RootValue). r.capacity) same)))
    (λ honest s at.
    on_ok_both result
    (λ is declared. known_holding d new c.invalidate.new.self c.invalidate.ensures s (in_known d new is.0 is.1.1.0 is.1.1.1 (g.met.D.Disk.seen_may new.roots.disk honest) old.roots.root.side old.roots.root.capacity declared n seen s is.1.0 (stood honest s at)))
    (does.at honest) does.sinks)
    (λ honest s at.
    on_err result (has_failed new ≡ true) (root_of new ≡ root_of old) does.failed does.last_known
    (λ fails same. record {
      in_state = fails_in d old new same does.size s at.in_state fails (record s { failed = true }) refl refl (λ image may. at.in_state.images image ((does.nothing honest).run.now image may));
      right = c.invalidate.ensures s.contents.mosaic;
    }))
    (λ honest s at.
    IfErr-weaker result _ _
    (λ why refused. ⊎_elim (λ is. refused_for n seen is.0 why is.1 refused) (λ is. refused_for n seen is.2.0 why is.2.1 refused) (stood honest s at))
    (does.refused honest))
