-- Calls of the mosaic in memory, which never fail.
use Rattle.std.proofs.Common.{◌≡◌, ◌≢◌, ℕ, ◌<◌, ◌+◌, false, true≢false, IsTrue, List, [], ◌∷◌, ◌++◌, refl, sym, ap, subst, arith}
use Rattle.std.specs.Prelude.{Result, Ok, Err, IfOk, IfErr, MatchResult, Some, Contains}
use Rattle.std.specs.Global.{Vec}
use Rattle.lattice.specs.Corners.{Corner}
use Rattle.lattice.specs.Mosaic.{Mosaic}
use Rattle.lattice.specs.declared.point.Point.{Point}
use Rattle.lattice.specs.declared.refusal.Refusal.{Refusal}
use Rattle.lattice.specs.declared.refusal.Refusal.TheVariants.{Outside, Void, NoTile, Device, NoMemory, Failed, Worn, Damaged}
use Rattle.catalogue.specs.Asked.{IsOwnRefusal}
use Rattle.catalogue.specs.Endings.{ends_any}
use Rattle.catalogue.specs.Tiles.{corners_of}
use Rattle.catalogue.proofs.Presence.{present_iff}
use Rattle.drainage.proofs.Questions.Answered.{told_or_short}
use Rattle.edits.specs.declared.command.Command.{Command}
use Rattle.edits.specs.declared.command.Command.TheVariants.{Import, Remove, Patch, Burn, Wall, Sink, Unsink}
use Rattle.edits.specs.Effect.{effect}
use Rattle.water.specs.Questions.{IsUnanswered}
use Rattle.engine.specs.declared.event.Event.{Event}
use Rattle.engine.specs.declared.event.Event.TheVariants as ask
use Rattle.engine.specs.declared.event.Reply.{Reply}
use Rattle.engine.specs.declared.event.Reply.TheVariants as reply
use Rattle.engine.specs.Engines.{IsCall, answered, items_in}
use Rattle.engine.specs.Events.{Happens, fails_after}
use Rattle.engine.specs.Outcomes.{Stays, AnswersNot, Accepts, Applies, AppliesNot, TellsTile}
use Rattle.engine.specs.State.{State, last_number, working}
use Rattle.engine.specs.Steps.{Commits, Steps, stepped}
use Rattle.engine.specs.Told.{Matches, Knows, WritesFew, may_refuse, may_refuse_question, may_refuse_tile}
use Rattle.engine.proofs.Answered.{no_samples}
use Rattle.engine.proofs.Questions.{IsQuestion, answers_so, few_as, knows_refused}
use Rattle.edits.specs.Touched.{stale_after}
use Rattle.table_engine.specs.TableState.{TableState, held_of, contents_of, stale_among, table}
use Rattle.table_engine.proofs.FreshTiles.{one_less}

few_writes : (side : ℕ) (c : Command) → WritesFew 2 side (ask.Do c) 0 0
few_writes side (Import c bytes) = tt
few_writes side (Remove c) = tt
few_writes side (Patch from to height) = tt
few_writes side (Burn depth points) = omega arith
few_writes side (Wall height points) = omega arith
few_writes side (Sink p) = omega arith
few_writes side (Unsink p) = omega arith

module _ (held : TableState) where
  abbrev now : State
  now = working held.contents

  abbrev here : Mosaic
  here = held.contents.mosaic

  pub stays : Stays now now
  stays = record { working = refl; same = refl }

  -- a call that leaves the engine unchanged
  abbrev Same : Event → Reply → Type 0
  Same event answer = IsCall table held event answer held

  same : (event : Event) (answer : Reply) → Matches event answer → (answer ≡ reply.Refused Failed → ⊥) → (answer ≡ reply.Refused Device → ⊥) → false ≡ fails_after false event answer
      → WritesFew 2 here.side event 0 0 → Knows (table.known held) event answer (table.known held) → Happens held.capacity now event answer now → Same event answer
  same event answer matches not_failed not_device after few knows happens = record {
    side = λ _. refl;
    capacity = λ _. refl;
    sectors = refl;
    told = record { matches = matches; says = λ failed. absurd (true≢false (sym failed)); had_failed = λ is. absurd (not_failed is); after_is = after };
    failures = record { later = omega arith; device = λ is. absurd (not_device is) };
    writes = record { few = few; refused = λ r is other. refl };
    known = knows;
    honest = λ h. h;
    takes = λ honest s at. (refl, refl);
    happens = λ honest s at. (s, (at, subst (λ (z : State). Happens held.capacity z event answer z) (sym at) happens, tt));
  }

  -- a question with the right answer, and no failure of a disk
  pub told_so : {T : Type 0} {event : Event} {tell : T → Reply} {Answers : State → Result T Refusal → State → Type 0} → IsQuestion held.capacity event tell Answers
      → (result : Result T Refusal) → IfErr result (λ r. IsTrue (may_refuse event r) × ((r ≢ Failed) × (r ≢ Device))) → Answers now result now → Same event (answered tell result)
  told_so {T} {event} {tell} {Answers} is (Ok x) own so =
      same event (tell x) (is.matches x) (is.no_refusal x Failed) (is.no_refusal x Device) (sym (is.goes_on false x)) (few_as event tell Answers is 2 here.side 0 0 refl)
      (is.knows (table.known held) (table.known held) x refl) (is.right now now x so)
  told_so {T} {event} {tell} {Answers} is (Err r) (may, (not_failed, not_device)) so =
      same event (reply.Refused r) may (λ e. not_failed (refusal_of e)) (λ e. not_device (refusal_of e)) (sym ((answers_so event tell Answers is).passes false r not_device))
      (few_as event tell Answers is 2 here.side 0 0 refl) (knows_refused (table.known held) (table.known held) event r refl) (is.refused now now r so)
    where
      refusal_of : {q : Refusal} → reply.Refused r ≡ reply.Refused q → r ≡ q
      refusal_of e = cc

  -- a question about the water at a point
  module _ {T : Type 0} (p : Point) {event : Event} {tell : T → Reply} {Answers : State → Result T Refusal → State → Type 0} (is : IsQuestion held.capacity event tell Answers) (may : (r : Refusal) → IsTrue (may_refuse_question r) → IsTrue (may_refuse event r))
      (Says : T → Type 0) (right : (x : T) → Says x → Answers now (Ok x) now) (wrong : (r : Refusal) → AnswersNot now p r now → Answers now (Err r) now) where
    unanswered : (r : Refusal) → IsUnanswered here p r → (IsTrue (may_refuse_question r) × ((r ≢ Failed) × (r ≢ Device))) × AnswersNot now p r now
    unanswered Outside so = ((refl, ((λ e. cc), (λ e. cc))), (stays, so))
    unanswered Void so = ((refl, ((λ e. cc), (λ e. cc))), (stays, so))
    unanswered NoMemory so = ((refl, ((λ e. cc), (λ e. cc))), stays)
    unanswered r so = absurd so

    pub told_point : (result : Result T Refusal) → MatchResult result Says (IsUnanswered here p) → Same event (answered tell result)
    told_point (Ok x) so = told_so is (Ok x) tt (right x so)
    told_point (Err r) so = let (own, says) = unanswered r so in told_so is (Err r) (may r own.0, own.1) (wrong r says)

  -- a question about all samples of a tile
  module _ {X : Type 0} (c : Corner) (Says : Mosaic → Corner → List X → Type 0) {event : Event} {tell : Vec X → Reply}
      (is : IsQuestion held.capacity event tell (λ (s : State) (r : Result (Vec X) Refusal) (t : State). TellsTile Says s c (items_in r) t)) (may : (r : Refusal) → IsTrue (may_refuse_tile r) → IsTrue (may_refuse event r)) where
    pub no_tile_at : ¬ Contains (corners_of here) c → Same event (reply.Refused NoTile)
    no_tile_at none = told_so is (Err NoTile) (may NoTile refl, ((λ e. cc), (λ e. cc))) (stays, no_samples here c none)

    pub told_tile : Contains (corners_of here) c → (result : Result (Vec X) Refusal) → MatchResult result (λ values. Says here c values.items) (λ r. r ≡ NoMemory) → Same event (answered tell result)
    told_tile there (Ok values) so = told_so is (Ok values) tt (stays, ((present_iff here c).1 there, so))
    told_tile there (Err r) memory = subst (λ (why : Refusal). Same event (reply.Refused why)) (sym memory) (told_so is (Err NoMemory) (may NoMemory refl, ((λ e. cc), (λ e. cc))) stays)

  not_failing : (event : Event) → (event ≡ ask.Reopen → ⊥) → (r : Refusal) → (r ≡ Device → ⊥) → false ≡ fails_after false event (reply.Refused r)
  not_failing ask.Reopen other r not_device = absurd (other refl)
  not_failing event other Device not_device = absurd (not_device refl)
  not_failing event other r not_device = refl

  module _ (c : Command) where
    not_done : (r : Refusal) → IsTrue (may_refuse (ask.Do c) r) → (r ≡ Failed → ⊥) → (r ≡ Device → ⊥) → AppliesNot held.capacity now c r now → Same (ask.Do c) (reply.Refused r)
    not_done r may not_failed not_device is =
        same (ask.Do c) (reply.Refused r) may (λ e. not_failed (refusal_is e)) (λ e. not_device (refusal_is e)) (not_failing (ask.Do c) (λ e. absurd (cc)) r not_device) (few_writes here.side c) refl is
      where
        refusal_is : {q : Refusal} → reply.Refused r ≡ reply.Refused q → r ≡ q
        refusal_is e = cc

    pub worn : (new : Mosaic) → effect held.capacity here c ≡ Ok new → held.contents.number ≡ last_number → Same (ask.Do c) (reply.Refused Worn)
    worn new makes full = not_done Worn refl (λ e. absurd (cc)) (λ e. absurd (cc)) (record { stays = stays; accepted = (new, makes); worn = full })

module _ (m : Mosaic) (capacity : ℕ) (fresh : List Corner) (k g : ℕ) where
  abbrev pub old : TableState
  old = held_of capacity m fresh k g

  -- a command that was done
  pub done : (c : Command) (new : Mosaic) (left : List Corner) → effect capacity m c ≡ Ok new → new.side ≡ m.side → g < last_number → stale_after m c (stale_among (corners_of m) fresh) new ≡ stale_among (corners_of new) left
      → IsCall table old (ask.Do c) (reply.Done (k + 1)) (held_of capacity new left (k + 1) (g + 1))
  done c new left makes side below stale = record {
    side = λ _. side;
    capacity = λ _. refl;
    sectors = refl;
    told = record { matches = tt; says = λ failed. absurd (true≢false (sym failed)); had_failed = λ e. absurd (cc); after_is = refl };
    failures = record { later = omega arith; device = λ e. absurd (cc) };
    writes = record { few = few_writes m.side c; refused = λ r is other. refl };
    known = (refl, refl);
    honest = λ h. h;
    takes = λ honest s at. (side, refl);
    happens = λ honest s at. (then, (refl, subst (λ (z : State). Applies capacity z c (Ok (k + 1)) then) (sym at) accepted, tt));
  }
    where
      then : State
      then = working (contents_of new left (k + 1) (g + 1))

      accepted : Accepts capacity (working old.contents) c (k + 1) then
      accepted = record {
        working = refl;
        effect_is = (new, (makes, ap (λ (l : List Corner). working (record { version = 2; mosaic = new; count = k + 1; number = g + 1; stale = l })) (sym stale)));
        counted = refl;
        room = below;
      }

  -- a step that names its tile
  pub stepped_to : (c : Corner) → Contains (stale_among (corners_of m) fresh) c → g < last_number
      → IsCall table old ask.Step (reply.Stepped (Some c)) (held_of capacity m (fresh ++ c ∷ []) k (g + 1))
  stepped_to c stale below = record {
    side = λ _. refl;
    capacity = λ _. refl;
    sectors = refl;
    told = record { matches = tt; says = λ failed. absurd (true≢false (sym failed)); had_failed = λ e. absurd (cc); after_is = refl };
    failures = record { later = omega arith; device = λ e. absurd (cc) };
    writes = record { few = omega arith; refused = λ r is other. refl };
    known = refl;
    honest = λ h. h;
    takes = λ honest s at. (refl, refl);
    happens = λ honest s at. (then, (refl, subst (λ (z : State). Steps z (Ok (Some c)) then) (sym at) (stale, kept), tt));
  }
    where
      then : State
      then = working (contents_of m (fresh ++ c ∷ []) k (g + 1))

      kept : Commits (working old.contents) (stepped c old.contents) then
      kept = record {
        working = refl;
        room = below;
        made_is = ap (λ (l : List Corner). working (record { version = 2; mosaic = m; count = k; number = g + 1; stale = l })) (one_less (corners_of m) fresh c);
      }

  -- a call of a table with this state
  module _ (held : TableState) (view : old ≡ held) (event : Event) (answer : Reply) where
    pub called : (next : TableState) → IsCall table old event answer next → IsCall table held event answer next
    called next call = subst (λ (h : TableState). IsCall table h event answer next) view call

    -- a call of a table after which the mosaic is equal
    pub called_same : (new : Mosaic) → new ≡ m → IsCall table old event answer old → IsCall table held event answer (held_of capacity new fresh k g)
    called_same new is call = called (held_of capacity new fresh k g) (subst (λ (x : Mosaic). IsCall table old event answer (held_of capacity x fresh k g)) (sym is) call)

  -- a question about a tile that is present or not
  module _ (held : TableState) (view : old ≡ held) {X : Type 0} (c : Corner) (Says : Mosaic → Corner → List X → Type 0) {event : Event} {tell : Vec X → Reply}
      (is : IsQuestion capacity event tell (λ (s : State) (r : Result (Vec X) Refusal) (t : State). TellsTile Says s c (items_in r) t)) (may : (r : Refusal) → IsTrue (may_refuse_tile r) → IsTrue (may_refuse event r)) where
    pub absent_told : ¬ Contains (corners_of m) c → IsCall table held event (reply.Refused NoTile) held
    absent_told none = subst (λ (h : TableState). IsCall table h event (reply.Refused NoTile) h) view (no_tile_at old c Says is may none)

    pub tile_told : Contains (corners_of m) c → (result : Result (Vec X) Refusal) → IfErr result IsOwnRefusal → result ≢ Err Damaged → IfOk result (λ values. Says m c values.items) → IfErr result (λ r. IsTrue (ends_any r))
        → (new : Mosaic) → new ≡ m → IsCall table held event (answered tell result) (held_of capacity new fresh k g)
    tile_told there result own sound found causes new same =
        called_same held view event (answered tell result) new same (told_tile old c Says is may there result (told_or_short (λ (values : Vec X). Says m c values.items) result own sound found causes))
