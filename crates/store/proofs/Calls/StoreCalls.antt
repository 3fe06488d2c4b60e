-- The calls of a store as calls of an engine: questions, and calls that may commit.
use Rattle.std.proofs.Common.{rules}
use Rattle.store.proofs.Prelude.{Bool, Command, Corner, Device, Err, Event, Failed, Ghosts, Happens, IfErr, IfErr-weaker, IfOk, Image, IsCall, IsErrAnd, IsTrue, LeavesStates, NoMemory, Ok, OnErr, OnOk, Refusal, Reply, Result, RootValue, StandsForOne, State, StaysFailed, Store, Vec, ℕ, [], allowed, answered, ap, arith, both_ways, false, inl, known_by, members, no_call_yet, not_called, nothing_done, number_of, refl, refused_as, subst, sym, true, ⊎_elim, ◌∙◌, ◌∷◌, ◌≡◌, ◌≢◌}
use Rattle.disk.specs.Stops.{LeavesOnly, weaker as weaker_on, nothing_done as nothing_done_on}
use Rattle.catalogue.specs.Tiles.{corners_of}
use Rattle.engine.specs.Told.{may_refuse, IsTold, Knows, WritesFew}
use Rattle.engine.specs.declared.event.Event.TheVariants as ask
use Rattle.engine.specs.declared.event.Reply.TheVariants as reply
use Rattle.engine.proofs.Questions.{IsAnswered, IsQuestion, answers_so, command_answered, knows_as, knows_refused, right_as, few_as, told, counted_so, written_so}
use Rattle.store.specs.StoreEndings.{HasEndedAt}
use Rattle.stored_mosaic.specs.Ended.{LeavesOr, command_ending, event_ending}
use Rattle.store.specs.StoreQueries.{Queries}
use Rattle.store.specs.Stores.{IsAt, disk_of, root_of, side_of, capacity_of, has_failed}
use Rattle.stored_mosaic.proofs.Calls.Ended.{IsNoFault, no_fault, other_refusal}
use Rattle.stored_mosaic.proofs.Reading.Querying.{stays_failed_at}

-- the law of a disk that only present images count since the present moment
abbrev pub HasOnlyNow : {D : Type 0} → Ghosts D → Type 0
HasOnlyNow g = (disk : _) (image : Image) → g.honest disk → g.since disk (g.moment disk) image → g.may disk image

-- ---- questions

module _ {D : Type 0} (g : Ghosts D) (old new : Store D g) {T : Type 0} where
  -- After a question a stop leaves only what the state before it allows.
  pub question_leaves : (result : Result T Refusal) (s t : State) → Queries g old new result → g.honest (disk_of new) → IsAt g old s → LeavesStates g old new (s ∷ t ∷ [])
  question_leaves result s t reads honest is = record {
    size = reads.returns.size;
    side = ap (λ (root : RootValue). root.side) reads.root;
    capacity = ap (λ (root : RootValue). root.capacity) reads.root;
    run = weaker_on g (disk_of old) (disk_of new) (g.may (disk_of old)) (StandsForOne (g.size (disk_of old)) (side_of old) (capacity_of old) (s ∷ t ∷ []))
        (allowed old s (t ∷ []) is) (reads.nothing honest).run;
  }

  module _ {event : Event} {tell : T → Reply} {Answers : State → Result T Refusal → State → Type 0} (is : IsQuestion (capacity_of old) event tell Answers) where
    pub asked : (result : Result T Refusal) → IfErr result (λ r. IsTrue (may_refuse event r)) → Queries g old new result
        → (g.honest (disk_of new) → (s : State) → IsAt g old s → (t : State) × (IsAt g new t × Answers s result t)) → IsCall (members g) old event (answered tell result) new
    asked result causes reads outcome =
        let so = answers_so event tell Answers is in
        let before : ℕ = g.writes (disk_of old) in
        let now : ℕ = g.writes (disk_of new) in
        record {
          side = λ _. ap (λ (root : RootValue). root.side) reads.root;
          capacity = λ _. ap (λ (root : RootValue). root.capacity) reads.root;
          sectors = reads.returns.size;
          told = told event tell so (has_failed old) (has_failed new) result causes (λ had. ((reads.failed had).0, reads.still_failed had)) reads.returns.works reads.returns.fails reads.quiet;
          failures = counted_so event tell so (g.failures (disk_of old)) (g.failures (disk_of new)) result reads.returns.later reads.returns.device;
          writes = written_so event tell so (number_of (root_of old).version) (side_of old) before now result (few_as event tell Answers is (number_of (root_of old).version) (side_of old) before now reads.writes) (always result reads.writes);
          known = knows_as event tell Answers is (known_by (root_of old)) (known_by (root_of new)) result (ap known_by reads.root);
          honest = λ h. (reads.nothing h).honest;
          takes = λ h s at. (ap (λ (root : RootValue). root.side) reads.root, ap (λ (root : RootValue). root.capacity) reads.root);
          happens = λ h s at.
              let step = outcome h s at in (
                step.0,
                (step.1.0, right_as event tell Answers is s step.0 result step.1.1, question_leaves result s step.0 reads h at),
              );
        }
      where
        always : {X : Type 0} (answer : Result T Refusal) → X → IfErr answer (λ r. r ≢ Device → X)
        always (Ok x) says = tt
        always (Err r) says = λ _. says

    -- a question that the disk refused
    pub asked_in_vain : IsTrue (may_refuse event Device) → (result : Result T Refusal) → result ≡ Err Device → Queries {T = T} g old new (Err Device)
        → (g.honest (disk_of new) → (s : State) → IsAt g old s → (t : State) × (IsAt g new t × Answers s (Err Device) t)) → IsCall (members g) old event (answered tell result) new
    asked_in_vain may result refused reads outcome = subst (λ (answer : Result T Refusal). IsCall (members g) old event (answered tell answer) new) (sym refused) (asked (Err Device) may reads outcome)

-- questions that are answered without a call of the disk
module _ {D : Type 0} (g : Ghosts D) (only_now : HasOnlyNow g) (store : Store D g) {T : Type 0} where
  pub unread : (result : Result T Refusal) → IsNoFault result → OnOk result (has_failed store ≡ false)
      → (has_failed store ≡ false → IfErr result (λ r. r ≢ Device → (r ≢ Failed) × (has_failed store ≡ false))) → (has_failed store ≡ true → result ≡ Err Failed) → Queries g store store result
  unread result no_device works quiet failed = record {
    returns = not_called g store.tree store.tree result (no_call_yet g store.tree) works no_device;
    writes = refl;
    root = refl;
    quiet = quiet;
    failed = λ had. (failed had, refl);
    still_failed = λ had. had;
    nothing = λ honest. nothing_done_on g (disk_of store) (only_now (disk_of store)) honest;
  }

  module _ {event : Event} {tell : T → Reply} {Answers : State → Result T Refusal → State → Type 0} (is : IsQuestion (capacity_of store) event tell Answers) where
    -- the case of a store that hasn't failed
    pub told_it : has_failed store ≡ false → (x : T) → (g.honest (disk_of store) → (s : State) → IsAt g store s → Answers s (Ok x) s) → IsCall (members g) store event (tell x) store
    told_it works x says =
        asked g store store is (Ok x) tt (unread (Ok x) (no_fault x) works (λ _. tt) (λ had. absurd (both_ways (has_failed store) works had))) (λ honest s at. (s, (at, says honest s at)))

    pub refused_it : has_failed store ≡ false → (r : Refusal) → r ≢ Device → r ≢ Failed → IsTrue (may_refuse event r)
        → (g.honest (disk_of store) → (s : State) → IsAt g store s → Answers s (Err r) s) → IsCall (members g) store event (reply.Refused r) store
    refused_it works r no_device no_failure may says = search rules

    -- the case of a store that has failed
    pub denied : IsTrue (may_refuse event Failed) → ((s : State) → StaysFailed s s → Answers s (Err Failed) s)
        → (result : Result T Refusal) (r : Refusal) → IsErrAnd result (λ why. why ≡ r) → (r ≡ Failed) × (has_failed store ≡ true) → IsCall (members g) store event (answered tell result) store
    denied may says result r refused (failed, had) =
        subst (λ (answer : Result T Refusal). IsCall (members g) store event (answered tell answer) store) (sym (refused_as result r refused ∙ ap (λ (why : Refusal). Err why) failed))
        (asked g store store is (Err Failed) may (unread (Err Failed) (other_refusal Failed (λ e. cc)) tt (λ works. absurd (both_ways (has_failed store) works had)) (λ _. refl))
        (λ honest s at. (s, (at, says s (stays_failed_at g store.tree had s at.in_state)))))

-- a call that is refused only with Device
pub only_device_may : {T : Type 0} (event : Event) → IsTrue (may_refuse event Device) → (result : Result T Refusal) → IfErr result (λ r. r ≡ Device) → IfErr result (λ r. IsTrue (may_refuse event r))
only_device_may event may result = IfErr-weaker result _ _ (λ r is. subst (λ (x : Refusal). IsTrue (may_refuse event x)) (sym is) may)

pub counts : {D : Type 0} (g : Ghosts D) → HasOnlyNow g → (store : Store D g) (k : ℕ) → k ≡ (root_of store).count → IsCall (members g) store ask.Count (reply.Count k) store
counts g only_now store k known = search rules

-- ---- calls that may commit

module _ {D : Type 0} (g : Ghosts D) (only_now : HasOnlyNow g) (old new : Store D g) (untouched : has_failed old ≡ true → disk_of new ≡ disk_of old) where
  -- A stop leaves the state before the call or the one after it.
  pub ended_leaves : (s t : State) → g.honest (disk_of old) → (s.failed ≡ false → LeavesOnly g (disk_of old) (disk_of new) (LeavesOr g old.tree s t)) → IsAt g old s
      → LeavesOnly g (disk_of old) (disk_of new) (StandsForOne (g.size (disk_of old)) (side_of old) (capacity_of old) (s ∷ t ∷ []))
  ended_leaves s t honest any at = by s.failed refl
    where
      Allowed : Image → Type 0
      Allowed = StandsForOne (g.size (disk_of old)) (side_of old) (capacity_of old) (s ∷ t ∷ [])

      by : (b : Bool) → s.failed ≡ b → LeavesOnly g (disk_of old) (disk_of new) Allowed
      by false works = weaker_on g (disk_of old) (disk_of new) (LeavesOr g old.tree s t) Allowed (λ image. ⊎_elim (λ was. (s, (0, omega arith, refl), inl was)) (λ later. (t, (1, omega arith, refl), later))) (any works)
      by true gone =
          subst (λ (disk : _). LeavesOnly g (disk_of old) disk Allowed) (sym (untouched (at.in_state.failed_is ∙ gone)))
          (weaker_on g (disk_of old) (disk_of old) (g.may (disk_of old)) Allowed (allowed old s (t ∷ []) at) (nothing_done_on g (disk_of old) (only_now (disk_of old)) honest).run)

module _ {D : Type 0} (g : Ghosts D) (only_now : HasOnlyNow g) (old new : Store D g) {T : Type 0} (event : Event) (tell : T → Reply) (so : IsAnswered event tell) (is_idle : T → Bool) (result : Result T Refusal)
    (is : HasEndedAt g (event_ending (capacity_of old) event tell is_idle) result old new)
    (few : WritesFew (number_of (root_of old).version) (side_of old) event (g.writes (disk_of old)) (g.writes (disk_of new)))
    (failed : has_failed old ≡ true → (result ≡ Err Failed) × ((disk_of new ≡ disk_of old) × (has_failed new ≡ true))) where
  knows : (answer : Result T Refusal) → IfOk answer (λ x. Knows (known_by (root_of old)) event (tell x) (known_by (root_of new))) → OnErr answer (root_of new ≡ root_of old)
      → Knows (known_by (root_of old)) event (answered tell answer) (known_by (root_of new))
  knows (Ok x) on last = on
  knows (Err r) on last = knows_refused (known_by (root_of old)) (known_by (root_of new)) event r (ap known_by last)

  pub ended : IsCall (members g) old event (answered tell result) new
  ended = record {
    side = λ _. is.side;
    capacity = λ _. is.capacity;
    sectors = is.returns.size;
    told = told event tell so (has_failed old) (has_failed new) result is.causes (λ had. ((failed had).0, (failed had).1.1)) is.returns.works is.returns.fails is.quiet;
    failures = counted_so event tell so (g.failures (disk_of old)) (g.failures (disk_of new)) result is.returns.later is.returns.device;
    writes = written_so event tell so (number_of (root_of old).version) (side_of old) (g.writes (disk_of old)) (g.writes (disk_of new)) result few is.unwritten;
    known = knows result is.known is.last_known;
    honest = is.returns.honest;
    takes = λ h s at. (is.side, is.capacity);
    happens = λ h s at.
        let step = is.outcome h s at in
        let t : State = step.0 in (
          t,
          (
            step.1.0,
            step.1.1,
            record { size = is.returns.size; side = is.side; capacity = is.capacity; run = ended_leaves g only_now old new (λ had. (failed had).1.0) s t (is.returns.honest h) step.1.2 at },
          ),
        );
  }

-- a command
pub commanded : {D : Type 0} (g : Ghosts D) → HasOnlyNow g → (old new : Store D g) (c : Command) (result : Result ℕ Refusal) → HasEndedAt g (command_ending (capacity_of old) c) result old new
    → WritesFew (number_of (root_of old).version) (side_of old) (ask.Do c) (g.writes (disk_of old)) (g.writes (disk_of new))
    → (has_failed old ≡ true → (result ≡ Err Failed) × ((disk_of new ≡ disk_of old) × (has_failed new ≡ true))) → IsCall (members g) old (ask.Do c) (answered reply.Done result) new
commanded g only_now old new c result = ended g only_now old new (ask.Do c) reply.Done (command_answered c) (λ k. false) result

-- ---- lists of the tiles, by a store that hasn't failed

tiles_told : (failed after : Bool) (result : Result (Vec Corner) Refusal) → IsTold failed ask.Tiles (answered reply.Tiles result) after → failed ≡ false → IfErr result (λ r. r ≡ NoMemory)
tiles_told failed after (Ok corners) is works = tt
tiles_told failed after (Err NoMemory) is works = refl
tiles_told failed after (Err Failed) is works = absurd (both_ways failed works (is.had_failed refl))
tiles_told failed after (Err r) is works = absurd (both_ways false refl is.matches)

tiles_listed : (capacity : ℕ) (s t : State) (result : Result (Vec Corner) Refusal) → s.failed ≡ false → Happens capacity s ask.Tiles (answered reply.Tiles result) t → IfOk result (λ corners. corners.items ≡ corners_of s.contents.mosaic)
tiles_listed capacity s t (Ok corners) works (stays, is) = is
tiles_listed capacity s t (Err r) works is = tt

module _ {D : Type 0} (g : Ghosts D) (store : Store D g) (works : has_failed store ≡ false) (result : Result (Vec Corner) Refusal) (call : IsCall (members g) store ask.Tiles (answered reply.Tiles result) store) where
  -- The list is refused only with NoMemory.
  pub only_memory : IfErr result (λ r. r ≡ NoMemory)
  only_memory = tiles_told (has_failed store) (has_failed store) result call.told works

  pub tiles_at : g.honest (disk_of store) → (s : State) → IsAt g store s → IfOk result (λ corners. corners.items ≡ corners_of s.contents.mosaic)
  tiles_at honest s at =
      let step = call.happens honest s at in
      tiles_listed (capacity_of store) s step.0 result (sym at.in_state.failed_is ∙ works) step.1.1
