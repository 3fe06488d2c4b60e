-- What follows from the replies to items, one after another.
use Rattle.std.proofs.Common.{◌≡◌, ℕ, List, [], ◌∷◌, ◌++◌, refl, ◌∙◌, subst, arith}
use Rattle.std.specs.Prelude.{map, Option, Result, Ok, Err}
use Rattle.engine.specs.Engines.{AreAt, LeaveLater}
use Rattle.engine.specs.Events.{Happens}
use Rattle.engine.specs.Runs.{last_of}
use Rattle.engine.specs.State.{State}
use Rattle.engine.specs.Told.{IsTold}
use Rattle.engine.specs.Members.{IsEngine, members}
use Rattle.engine.specs.declared.engine.Engine.{Ghosts}
use Rattle.lines.specs.declared.language.Language.{Language}
use Rattle.serving.specs.declared.session.ServeFault.{ServeFault}
use Rattle.serving.specs.declared.session.ServeFault.TheVariants.{Input, Output}
use Rattle.serving.specs.Answers.{Replied}
use Rattle.serving.specs.Items.{Item}
use Rattle.serving.specs.Promises.{Answers, GoesThrough, Serves, Stays, side_in}
use Rattle.serving.specs.Served.{Outcome, Replies}
use Rattle.serving.proofs.SessionLemmas.{run_joined}
use Rattle.serving.proofs.Turns.{item_leaves, item_tells, unmoved}

module _ {E : Type 0} (g : Ghosts E) (is : IsEngine g) where
  stays_on : (old mid new : E) → Stays g old mid → Stays g mid new → Stays g old new
  stays_on old mid new first second =
      let one = first.failures in
      let two = second.failures in
      record { side = second.side ∙ first.side; capacity = second.capacity ∙ first.capacity; honest = λ h. first.honest (second.honest h); failures = omega (arith, one, two) }

  -- properties that stay true over all items
  stays : (items : List Item) (old : E) (text : List ℕ) (engines : List E) → Replies (Answers g) old items text engines → Stays g old (last_of old engines)
  stays [] old text [] replies = unmoved g is old old refl
  stays [] old text (next ∷ engines) replies = absurd replies
  stays (i ∷ items) old text [] replies = absurd replies
  stays (i ∷ items) old text (next ∷ engines) (reply, more, parts, answer, rest) =
      stays_on old next (last_of next engines) answer.stays (stays items next more engines rest)

  -- whether each engine in the run has failed
  flags : (n : ℕ) (items : List Item) (old : E) (text : List ℕ) (engines : List E) → g.side_of old ≡ n → Replies (Answers g) old items text engines
      → Replies (Replied IsTold (λ _. n)) (g.has_failed old) items text (map g.has_failed engines)
  flags n [] old text [] side replies = replies
  flags n [] old text (next ∷ engines) side replies = absurd replies
  flags n (i ∷ items) old text [] side replies = absurd replies
  flags n (i ∷ items) old text (next ∷ engines) side (reply, more, parts, answer, rest) =
      (reply, more, parts, item_tells g is n old next i reply side answer.replied, flags n items next more engines (answer.stays.side ∙ side) rest)

  -- the states of the engines, and what a stop leaves since each of them
  abbrev RunsFrom : ℕ → E → List Item → List ℕ → List E → State → Type 0
  RunsFrom capacity old items text engines s = (states : List State) × Replies (Replied (Happens capacity) side_in) s items text states
      × AreAt (members g) (old ∷ engines) (s ∷ states) × LeaveLater (members g) (old ∷ engines) (last_of old engines) (s ∷ states)

  runs : (capacity : ℕ) (items : List Item) (old : E) (text : List ℕ) (engines : List E) → g.capacity_of old ≡ capacity → Replies (Answers g) old items text engines
      → g.is_honest (last_of old engines) → (s : State) → g.is_at old s → RunsFrom capacity old items text engines s
  runs capacity [] old text [] same replies honest s at = ([], replies, (at, tt), (is.laws.stays old s honest at, tt))
  runs capacity [] old text (next ∷ engines) same replies honest s at = absurd replies
  runs capacity (i ∷ items) old text [] same replies honest s at = absurd replies
  runs capacity (i ∷ items) old text (next ∷ engines) same (reply, more, parts, answer, rest) honest s at =
      let last = last_of next engines in
      let left = item_leaves g is old next i reply answer.replied ((stays items next more engines rest).honest honest) s at in
      let t = left.0 in
      let later = runs capacity items next more engines (answer.stays.capacity ∙ same) rest honest t left.1 in
      let states = later.0 in
      let first = subst (λ (n : ℕ). Replied (Happens n) side_in s i reply t) same left.2 in (
        t ∷ states,
        (reply, more, parts, first, later.1),
        (at, later.2),
        (is.laws.weaker old last ((s ∷ t ∷ []) ++ (t ∷ states)) (s ∷ t ∷ states) (run_joined s (t ∷ []) states) (is.laws.in_turn old next last (s ∷ t ∷ []) (t ∷ states) left.3 later.3.0), later.3),
      )

  module _ (language : Language) (before after written new : Option (List ℕ)) (old : E) (engines : List E) where
    abbrev Through : Result (Unit {0}) ServeFault → Type 0
    Through result = Outcome language (Answers g) before after written new old engines result

    abbrev StatesOf : Result (Unit {0}) ServeFault → State → Type 0
    StatesOf result s = (states : List State) × GoesThrough g language before after written new old engines result s states

    states_of : (result : Result (Unit {0}) ServeFault) → Through result → g.is_honest (last_of old engines) → (s : State) → g.is_at old s → StatesOf result s
    states_of (Ok u) (items, text, input, appends, replies) honest s at =
        let run = runs (g.capacity_of old) items old text engines refl replies honest s at in
        (run.0, record { outcome = (items, text, input, appends, run.1); at = run.2; later = run.3 })
    states_of (Err Input) (items, rest, text, on, begun, input, appends, replies) honest s at =
        let run = runs (g.capacity_of old) items old text engines refl replies honest s at in
        (run.0, record { outcome = (items, rest, text, on, begun, input, appends, run.1); at = run.2; later = run.3 })
    states_of (Err Output) (items, i, extent, text, n, left, on, item, input, replies, appends) honest s at =
        let run = runs (g.capacity_of old) (items ++ i ∷ []) old text engines refl replies honest s at in
        (run.0, record { outcome = (items, i, extent, text, n, left, on, item, input, run.1, appends); at = run.2; later = run.3 })

    flags_of : (result : Result (Unit {0}) ServeFault) → Through result → Outcome language (Replied IsTold (λ _. g.side_of old)) before after written new (g.has_failed old) (map g.has_failed engines) result
    flags_of (Ok u) (items, text, input, appends, replies) = (items, text, input, appends, flags (g.side_of old) items old text engines refl replies)
    flags_of (Err Input) (items, rest, text, on, begun, input, appends, replies) =
        (items, rest, text, on, begun, input, appends, flags (g.side_of old) items old text engines refl replies)
    flags_of (Err Output) (items, i, extent, text, n, left, on, item, input, replies, appends) =
        (items, i, extent, text, n, left, on, item, input, flags (g.side_of old) (items ++ i ∷ []) old text engines refl replies, appends)

    stays_of : (result : Result (Unit {0}) ServeFault) → Through result → Stays g old (last_of old engines)
    stays_of (Ok u) (items, text, input, appends, replies) = stays items old text engines replies
    stays_of (Err Input) (items, rest, text, on, begun, input, appends, replies) = stays items old text engines replies
    stays_of (Err Output) (items, i, extent, text, n, left, on, item, input, replies, appends) = stays (items ++ i ∷ []) old text engines replies

    -- all promises of a session, from its calls
    pub serves : (result : Result (Unit {0}) ServeFault) → Through result → Serves g language before after written new old engines result
    serves result through =
        let kept = stays_of result through in
        record {
          answers = through;
          states = states_of result through;
          told = flags_of result through;
          side = kept.side;
          capacity = kept.capacity;
          honest = kept.honest;
          failures = kept.failures;
        }
