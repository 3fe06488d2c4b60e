-- A reopening as a call of an engine.
use Rattle.store.proofs.Prelude.{Contents, Device, Err, Failed, Ghosts, Happens, HasRisen, IfErr, IsCall, IsErrOf, IsTrue, NoMemory, Ok, OnErr, OnOk, Refusal, Reply, Result, RootValue, Some, StandsForOne, State, Store, [], allowed, answered, ap, both_ways, false, inl, inr, known_by, members, refl, subst, sym, true, working, ⊎_elim, ◌∷◌, ◌≡◌, ◌≢◌, ◌≤◌, ◌⊎◌}
use Rattle.disk.specs.Stops.{AddsNothing, weaker}
use Rattle.cow_tree.specs.OverRoots.{IsRefusalOfTree}
use Rattle.engine.specs.Told.{IsTold, Knows, may_refuse_reopening}
use Rattle.engine.specs.declared.event.Event.TheVariants as ask
use Rattle.engine.specs.declared.event.Reply.TheVariants as reply
use Rattle.store.specs.Stores.{IsAt, disk_of, root_of, side_of, capacity_of, has_failed}

module _ {D : Type 0} (g : Ghosts D) (old new : Store D g) where
  abbrev Opened : Result (Unit {0}) Refusal → Reply
  Opened result = answered (λ u. reply.Reopened) result

  refused_for : (result : Result (Unit {0}) Refusal) → Opened result ≡ reply.Refused Device → IsErrOf result Device
  refused_for (Ok u) is = absurd (cc)
  refused_for (Err r) is = let same : r ≡ Device = cc in ap (λ (x : Refusal). Err x) same

  reopens : (result : Result (Unit {0}) Refusal) (s : State) → OnOk result (IsAt g new (working s.contents) ⊎ ((doubted : Contents) × (s.doubt ≡ Some doubted) × IsAt g new (working doubted)))
      → IfErr result (λ r. IsAt g new (record s { failed = true })) → IfErr result (λ r. (r ≡ Device) ⊎ (r ≡ NoMemory)) → (t : State) × (IsAt g new t × Happens (capacity_of old) s ask.Reopen (Opened result) t)
  reopens (Ok u) s at stays sure = ⊎_elim (λ known. (working s.contents, (known, inl refl))) (λ found. (working found.0, (found.2, inr (found.0, found.1, refl)))) at
  reopens (Err r) s at stays sure = (
    record s { failed = true },
    (
      stays,
      ⊎_elim (λ is. subst (λ (why : Refusal). Happens (capacity_of old) s ask.Reopen (reply.Refused why) (record s { failed = true })) (sym is) refl)
          (λ is. subst (λ (why : Refusal). Happens (capacity_of old) s ask.Reopen (reply.Refused why) (record s { failed = true })) (sym is) refl) sure,
    ),
  )

  -- the refusals of an opening, on any disk
  may_reopen : (r : Refusal) → IsRefusalOfTree r → IsTrue (may_refuse_reopening r)
  may_reopen r (inl (inl is)) = subst (λ (x : Refusal). IsTrue (may_refuse_reopening x)) (sym is) refl
  may_reopen r (inl (inr (inl is))) = subst (λ (x : Refusal). IsTrue (may_refuse_reopening x)) (sym is) refl
  may_reopen r (inl (inr (inr (inl is)))) = subst (λ (x : Refusal). IsTrue (may_refuse_reopening x)) (sym is) refl
  may_reopen r (inl (inr (inr (inr (inl is))))) = subst (λ (x : Refusal). IsTrue (may_refuse_reopening x)) (sym is) refl
  may_reopen r (inl (inr (inr (inr (inr is))))) = subst (λ (x : Refusal). IsTrue (may_refuse_reopening x)) (sym is) refl
  may_reopen r (inr is) = subst (λ (x : Refusal). IsTrue (may_refuse_reopening x)) (sym is) refl

  -- whether the store has failed after a reopening
  told_reopening : (result : Result (Unit {0}) Refusal) → IfErr result IsRefusalOfTree → OnOk result (has_failed new ≡ false) → OnErr result (has_failed new ≡ true)
      → IsTold (has_failed old) ask.Reopen (Opened result) (has_failed new)
  told_reopening (Ok u) refused works failed = record { matches = tt; says = λ had. tt; had_failed = λ e. absurd (cc); after_is = works }
  told_reopening (Err r) refused works failed = record {
    matches = may_reopen r refused;
    says = λ had. tt;
    had_failed = λ e. absurd (both_ways false refl (subst (λ (x : Refusal). IsTrue (may_refuse_reopening x)) (let same : r ≡ Failed = cc in same) (may_reopen r refused)));
    after_is = failed;
  }

  known_then : (result : Result (Unit {0}) Refusal) → OnErr result (root_of new ≡ root_of old) → Knows (known_by (root_of old)) ask.Reopen (Opened result) (known_by (root_of new))
  known_then (Ok u) last = tt
  known_then (Err r) last = ap known_by last

  -- After a refused reopening the last known root stays.
  same_root : (result : Result (Unit {0}) Refusal) → OnErr result (root_of new ≡ root_of old) → Opened result ≢ reply.Reopened → root_of new ≡ root_of old
  same_root (Ok u) last other = absurd (other refl)
  same_root (Err r) last other = last

  pub reopened : (result : Result (Unit {0}) Refusal) → g.size (disk_of new) ≡ g.size (disk_of old) → g.writes (disk_of new) ≡ g.writes (disk_of old) → g.failures (disk_of old) ≤ g.failures (disk_of new)
      → IfErr result IsRefusalOfTree → (IsErrOf result Device → HasRisen (g.failures (disk_of old)) (g.failures (disk_of new))) → (g.honest (disk_of new) → AddsNothing g (disk_of old) (disk_of new))
      → OnOk result (has_failed new ≡ false) → OnErr result (has_failed new ≡ true) → OnErr result (root_of new ≡ root_of old)
      → (g.honest (disk_of new) → (s : State) → IsAt g old s → (side_of new ≡ side_of old) × (capacity_of new ≡ capacity_of old))
      → (g.honest (disk_of new) → (s : State) → IsAt g old s → OnOk result (IsAt g new (working s.contents) ⊎ ((doubted : Contents) × (s.doubt ≡ Some doubted) × IsAt g new (working doubted))))
      → (g.honest (disk_of new) → (s : State) → IsAt g old s → IfErr result (λ r. IsAt g new (record s { failed = true })))
      → (g.honest (disk_of new) → (s : State) → IsAt g old s → IfErr result (λ r. (r ≡ Device) ⊎ (r ≡ NoMemory))) → IsCall (members g) old ask.Reopen (Opened result) new
  unfolding reopens
  reopened result size writes later refused device nothing works failed last_known takes at stays sure = record {
    side = λ other. ap (λ (root : RootValue). root.side) (same_root result last_known other);
    capacity = λ other. ap (λ (root : RootValue). root.capacity) (same_root result last_known other);
    sectors = size;
    told = told_reopening result refused works failed;
    failures = record { later = later; device = λ is. device (refused_for result is) };
    writes = record { few = writes; refused = λ r is other. writes };
    known = known_then result last_known;
    honest = λ h. (nothing h).honest;
    takes = λ h s was. takes h s was;
    happens = λ h s was.
        let step = reopens result s (at h s was) (stays h s was) (sure h s was) in
        let t : State = step.0 in (
          t,
          (
            step.1.0,
            step.1.1,
            record {
              size = size;
              side = (takes h s was).0;
              capacity = (takes h s was).1;
              run = weaker g (disk_of old) (disk_of new) (g.may (disk_of old)) (StandsForOne (g.size (disk_of old)) (side_of old) (capacity_of old) (s ∷ t ∷ [])) (allowed old s (t ∷ []) was) (nothing h).run;
            },
          ),
        );
  }
