-- What the laws of an engine say about a chain of calls.
use Rattle.std.proofs.Common.{◌≡◌, ℕ, ◌≤◌, ◌<◌, ◌+◌, ◌⊎◌, inl, inr, List, [], ◌∷◌, ◌++◌, length, take, get_or, refl, sym, ap, ◌∙◌, subst, arith}
use Rattle.std.specs.Prelude.{Contains}
use Rattle.std.proofs.lemmas.List.{take_more}
use Rattle.std.proofs.lemmas.List.Elements.{Contains-append_left, Contains-append_right, Contains-append_cases}
use Rattle.lattice.specs.declared.refusal.Refusal.TheVariants.{Device}
use Rattle.engine.specs.State.{State}
use Rattle.engine.specs.Events.{Happens}
use Rattle.engine.specs.Runs.{last_of, Through}
use Rattle.engine.specs.Told.{Matches, IsCounted, counted, failures_after}
use Rattle.engine.specs.Engines.{Members, Laws, IsRunOf, Keeps, Chain}
use Rattle.engine.specs.declared.event.Event.{Event}
use Rattle.engine.specs.declared.event.Event.TheVariants as ask
use Rattle.engine.specs.declared.event.Reply.{Reply}
use Rattle.engine.specs.declared.event.Reply.TheVariants as reply

-- ---- steps one after another

-- one more event was asked
pub asked_more : {A : Type 0} (questions : List A) (i : ℕ) (asked : A) → i < length questions → asked ≡ get_or questions i asked → take (i + 1) questions ≡ take i questions ++ asked ∷ []
asked_more {A} questions i asked below is = take_more questions i asked below ∙ ap (λ (a : A). take i questions ++ a ∷ []) (sym is)

module _ {X A B : Type 0} (Step : X → A → B → X → Type 0) (mid new : X) (asked : A) (given : B) where
  pub last_more : (x : X) (through : List X) → last_of x (through ++ new ∷ []) ≡ new
  last_more x [] = refl
  last_more x (next ∷ through) = last_more next through

  -- some steps, and then one more
  pub step_more : (x : X) (questions : List A) (answers : List B) (through : List X) → last_of x through ≡ mid → Through Step x questions answers through → Step mid asked given new
      → Through Step x (questions ++ asked ∷ []) (answers ++ given ∷ []) (through ++ new ∷ [])
  step_more x [] [] [] is steps step = (subst (λ (y : X). Step y asked given new) (sym is) step, tt)
  step_more x (a ∷ questions) (b ∷ answers) (next ∷ through) is (one, steps) step = (one, step_more next questions answers through is steps step)
  step_more x [] [] (next ∷ through) is steps step = absurd steps
  step_more x [] (b ∷ answers) through is steps step = absurd steps
  step_more x (a ∷ questions) [] through is steps step = absurd steps
  step_more x (a ∷ questions) (b ∷ answers) [] is steps step = absurd steps

-- Where two runs meet, the second state is named twice; once suffices.
pub without_double : (s t : State) (states : List State) (x : State) → Contains (s ∷ t ∷ t ∷ states) x → Contains (s ∷ t ∷ states) x
without_double s t states x h = by (Contains-append_cases (s ∷ t ∷ []) (t ∷ states) x h)
  where
    by : Contains (s ∷ t ∷ []) x ⊎ Contains (t ∷ states) x → Contains (s ∷ t ∷ states) x
    by (inl first) = Contains-append_left (s ∷ t ∷ []) states x first
    by (inr later) = Contains-append_right (s ∷ []) (t ∷ states) x later

-- ---- failures

-- If more failures were counted before, more are counted after.
pub more_failures : (before now : ℕ) (answers : List Reply) → before ≤ now → failures_after before answers ≤ failures_after now answers
more_failures before now [] le = le
more_failures before now (reply.Refused Device ∷ answers) le = more_failures (counted before) (counted now) answers (omega (arith, le))
more_failures before now (answer ∷ answers) le = more_failures before now answers le

pub one_failure : (before now : ℕ) (answer : Reply) (answers : List Reply) → IsCounted before answer now → failures_after before (answer ∷ answers) ≤ failures_after now answers
one_failure before now (reply.Refused Device) answers is = more_failures (counted before) now answers (is.device refl)
one_failure before now answer answers is = more_failures before now answers is.later

-- Only the event Reopen reopens the disk.
pub not_reopened : (event : Event) (answer : Reply) → (event ≡ ask.Reopen → ⊥) → Matches event answer → answer ≡ reply.Reopened → ⊥
not_reopened event answer other matches is = opened event other (subst (λ (a : Reply). Matches event a) is matches)
  where
    opened : (event : Event) → (event ≡ ask.Reopen → ⊥) → Matches event reply.Reopened → ⊥
    opened ask.Reopen other matches = other refl
    opened event other matches = matches

module _ {E : Type 0} (of : Members E) (called : E → Event → Reply → E → Type 0) (laws : Laws of called) where
  pub keeps : (old : E) (events : List Event) (answers : List Reply) (engines : List E) → Chain called old events answers engines → Keeps of old answers (last_of old engines)
  keeps old [] [] [] chain = record { honest = λ h. h; sectors = refl; later = omega arith; device = omega arith }
  keeps old [] [] (next ∷ engines) chain = absurd chain
  keeps old [] (answer ∷ answers) engines chain = absurd chain
  keeps old (event ∷ events) [] engines chain = absurd chain
  keeps old (event ∷ events) (answer ∷ answers) [] chain = absurd chain
  keeps old (event ∷ events) (answer ∷ answers) (next ∷ engines) (call, chain) =
      let first = laws.is_call old next event answer call in
      let rest = keeps next events answers engines chain in
      let fewer = first.failures.later in
      let later = rest.later in
      let one = one_failure (of.failures old) (of.failures next) answer answers first.failures in
      let more = rest.device in
      record {
        honest = λ h. first.honest (rest.honest h);
        sectors = rest.sectors ∙ first.sectors;
        later = omega (arith, fewer, later);
        device = omega (arith, one, more);
      }

  pub runs : (old : E) (events : List Event) (answers : List Reply) (engines : List E) → Chain called old events answers engines
      → of.is_honest (last_of old engines) → (s : State) → of.is_at old s → (states : List State) × IsRunOf of old events answers engines s states
  runs old [] [] [] chain honest s at = ([], record { at = (at, tt); run = tt; later = (laws.stays old s honest at, tt) })
  runs old [] [] (next ∷ engines) chain honest s at = absurd chain
  runs old [] (answer ∷ answers) engines chain honest s at = absurd chain
  runs old (event ∷ events) [] engines chain honest s at = absurd chain
  runs old (event ∷ events) (answer ∷ answers) [] chain honest s at = absurd chain
  runs old (event ∷ events) (answer ∷ answers) (next ∷ engines) (call, chain) honest s at =
      let first = laws.is_call old next event answer call in
      let before = (keeps next events answers engines chain).honest honest in
      let one = first.happens before s at in
      let t = one.0 in
      let more = runs next events answers engines chain honest t one.1.0 in
      let states = more.0 in
      let rest = more.1 in (
        t ∷ states,
        record {
          at = (at, rest.at);
          run = (one.1.1, subst (λ (n : ℕ). Through (Happens n) t events answers states) (first.takes before s at).1 rest.run);
          later = (
            laws.weaker old (last_of next engines) (s ∷ t ∷ t ∷ states) (s ∷ t ∷ states) (without_double s t states)
                (laws.in_turn old next (last_of next engines) (s ∷ t ∷ []) (t ∷ states) one.1.2 rest.later.0),
            rest.later,
          );
        },
      )
