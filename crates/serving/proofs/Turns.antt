-- What follows from the turn of one item.
use Rattle.std.proofs.Common.{rules}
use Rattle.std.proofs.Common.{◌≡◌, ℕ, Bool, true, false, true≢false, IsTrue, List, [], ◌∷◌, refl, sym, ap, ◌∙◌, subst, arith, inl, inr}
use Rattle.std.specs.Prelude.{Option, Some, None}
use Rattle.std.proofs.lemmas.Bool.{both_ways}
use Rattle.std.proofs.lemmas.List.Elements.{Contains-append_left}
use Rattle.lattice.specs.declared.refusal.Refusal.TheVariants.{Device}
use Rattle.edits.specs.declared.command.Command.{Command}
use Rattle.engine.specs.declared.event.Event.{Event}
use Rattle.engine.specs.declared.event.Event.TheVariants as ask
use Rattle.engine.specs.declared.event.Reply.{Reply}
use Rattle.engine.specs.declared.event.Reply.TheVariants as reply
use Rattle.engine.proofs.Chains.{not_reopened}
use Rattle.engine.specs.Engines.{IsCall}
use Rattle.engine.specs.Events.{Happens, fails_after}
use Rattle.engine.specs.State.{State}
use Rattle.engine.specs.Told.{Matches, IsTold}
use Rattle.engine.specs.Members.{IsEngine, members}
use Rattle.engine.specs.declared.engine.Engine.{Ghosts}
use Rattle.lines.specs.Grammar.{Asked, AskImport, AskEvent, AskNoTile, AskQuit}
use Rattle.lines.specs.declared.language.Language.{Language}
use Rattle.catalogue.specs.Reading.{HasRisen}
use Rattle.lines.specs.Replies.{refusal_text}
use Rattle.lines.specs.Telling.{Tells}
use Rattle.serving.specs.Answers.{ComesTo, Replied, Turn, Ask, Refuse, End, Turns}
use Rattle.lines.proofs.GrammarLaws.{never_reopens}
use Rattle.serving.specs.Items.{Item, AsksFor}
use Rattle.serving.specs.Promises.{Answers, Stays, IsDone, IsOkText, asks_command, side_in}
use Rattle.serving.proofs.Texts.{blames, done_is_no_fault, not_ok, only_device, refusal_told}

-- A command's item is that command or a refusal. No item reopens the disk, and only the engine answers Device.
abbrev Fits : Option Asked → Turn → Type 0
Fits a (Ask event) = (event ≡ ask.Reopen → ⊥) × (asks_command a ≡ true → (c : Command) × (event ≡ ask.Do c))
Fits a (Refuse r) = r ≡ Device → ⊥
Fits a End = asks_command a ≡ false

by_is : (a : Option Asked) (turn known : Turn) → turn ≡ known → Fits a known → Fits a turn
by_is a turn known is fits = subst (Fits a) (sym is) fits

fits : (language : Language) (side : ℕ) (line : List ℕ) (a : Option Asked) (payload : List ℕ) (turn : Turn) → AsksFor language line a → ComesTo side a payload turn → Fits a turn
fits language side line None payload turn asks is = by_is None turn _ is (λ e. absurd (cc))
fits language side line (Some (AskImport name len)) payload turn asks (inl (none, is)) = by_is (Some (AskImport name len)) turn _ is (λ e. absurd (cc))
fits language side line (Some (AskImport name len)) payload turn asks (inr (c, named, inl (wrong, is))) = by_is (Some (AskImport name len)) turn _ is (λ e. absurd (cc))
fits language side line (Some (AskImport name len)) payload turn asks (inr (c, named, inr (len_is, came, inl is))) = by_is (Some (AskImport name len)) turn _ is (λ e. absurd (cc))
fits language side line (Some (AskImport name len)) payload turn asks (inr (c, named, inr (len_is, came, inr is))) = by_is (Some (AskImport name len)) turn _ is ((λ e. absurd (cc)), λ e. (_, refl))
fits language side line (Some (AskEvent event)) payload turn asks is = by_is (Some (AskEvent event)) turn _ is (never_reopens language line event asks, to_command event)
  where
    to_command : (event : Event) → asks_command (Some (AskEvent event)) ≡ true → (c : Command) × (event ≡ ask.Do c)
    to_command (ask.Do c) e = (c, refl)
    to_command other e = absurd (true≢false (sym e))
fits language side line (Some AskNoTile) payload turn asks is = by_is (Some AskNoTile) turn _ is (λ e. absurd (cc))
fits language side line (Some AskQuit) payload turn asks is = by_is (Some AskQuit) turn _ is refl

-- An engine that hasn't failed fails only with the answer Device.
newly : (event : Event) (answer : Reply) → (event ≡ ask.Reopen → ⊥) → fails_after false event answer ≡ true → answer ≡ reply.Refused Device
newly ask.Reopen answer other e = absurd (other refl)
newly event (reply.Refused Device) other e = refl
newly event answer other e = absurd (true≢false (sym e))

module _ {E : Type 0} (g : Ghosts E) (is : IsEngine g) where
  call : (old new : E) (event : Event) (answer : Reply) → g.called old event answer new → IsCall (members g) old event answer new
  call = is.laws.is_call

  pub unmoved : (old new : E) → new ≡ old → Stays g old new
  unmoved old new same = subst (λ (e : E). Stays g old e) (sym same) (record { side = refl; capacity = refl; honest = λ h. h; failures = omega arith })

  turn_stays : (a : Option Asked) (turn : Turn) (old new : E) (text : List ℕ) → Fits a turn → Turns g.called turn old text new → Stays g old new
  turn_stays a (Ask event) old new text fit (answer, called, tells) =
      let known = call old new event answer called in
      let unopened = not_reopened event answer fit.0 known.told.matches in
      record { side = known.side unopened; capacity = known.capacity unopened; honest = known.honest; failures = known.failures.later }
  turn_stays a (Refuse r) old new text fit (told, same) = unmoved old new same
  turn_stays a End old new text fit (told, same) = unmoved old new same

  module _ (old new : E) (a : Option Asked) (text : List ℕ) where
    done_told : (c : Command) (answer : Reply) → Matches (ask.Do c) answer → g.called old (ask.Do c) answer new → Tells answer text → IsOkText text → IsDone g old text new
    done_told c (reply.Done k) matches called (inl told) ok = (c, k, called, told)
    done_told c (reply.Done k) matches called (inr (memory, told)) ok = absurd (true≢false (sym memory))
    done_told c (reply.Refused r) matches called tells ok = absurd (not_ok r text (refusal_told r text tells) ok)
    done_told c answer matches called tells ok = absurd matches

    turn_done : (turn : Turn) → Fits a turn → Turns g.called turn old text new → IsTrue (asks_command a) → IsOkText text → IsDone g old text new
    turn_done (Ask event) fit (answer, called, tells) commands ok =
        let to = fit.1 commands in
        let done : g.called old (ask.Do to.0) answer new = subst (λ (e : Event). g.called old e answer new) to.1 called in
        done_told to.0 answer (call old new (ask.Do to.0) answer done).told.matches done tells ok
    turn_done (Refuse r) fit (told, same) commands ok = absurd (not_ok r text told ok)
    turn_done End fit (told, same) commands ok = absurd (both_ways (asks_command a) fit commands)

    turn_fault : (turn : Turn) → Fits a turn → Turns g.called turn old text new → g.has_failed old ≡ false → g.has_failed new ≡ true → text ≡ refusal_text Device
    turn_fault (Ask event) fit (answer, called, tells) before after =
        let fails : fails_after false event answer ≡ true =
        ap (λ (b : Bool). fails_after b event answer) (sym before) ∙ sym (call old new event answer called).told.after_is ∙ after in
        refusal_told Device text (subst (λ (z : Reply). Tells z text) (newly event answer fit.0 fails) tells)
    turn_fault (Refuse r) fit (told, same) before after = absurd (both_ways (g.has_failed old) before (ap g.has_failed (sym same) ∙ after))
    turn_fault End fit (told, same) before after = absurd (both_ways (g.has_failed old) before (ap g.has_failed (sym same) ∙ after))

    turn_blames : (turn : Turn) → Fits a turn → Turns g.called turn old text new → text ≡ refusal_text Device → HasRisen (g.failures old) (g.failures new)
    turn_blames (Ask event) fit (answer, called, tells) e = (call old new event answer called).failures.device (blames answer text tells e)
    turn_blames (Refuse r) fit (told, same) e = absurd (fit (only_device r (sym told ∙ e)))
    turn_blames End fit (told, same) e = absurd (done_is_no_fault text told e)

  -- the reply to an item
  pub answers : (language : Language) (old new : E) (i : Item) (text : List ℕ) → AsksFor language i.line i.asked → Replied g.called g.side_of old i text new → Answers g old i text new
  answers language old new i text asks (turn, comes, turns) =
      let fit = fits language (g.side_of old) i.line i.asked i.payload turn asks comes in
      record {
        replied = (turn, comes, turns);
        done = turn_done old new i.asked text turn fit turns;
        fault = turn_fault old new i.asked text turn fit turns;
        stays = turn_stays i.asked turn old new text fit turns;
        blamed = turn_blames old new i.asked text turn fit turns;
      }

  -- the case of no call
  module _ (old new : E) (same : new ≡ old) (s : State) (at : g.is_at old s) where
    at_same : g.is_at new s
    at_same = subst (λ (e : E). g.is_at e s) (sym same) at

    leaves_same : g.is_honest new → g.leaves_only old new (s ∷ s ∷ [])
    leaves_same honest = search rules

  -- the state after a turn
  turn_leaves : (turn : Turn) (old new : E) (text : List ℕ) → Turns g.called turn old text new → g.is_honest new → (s : State) → g.is_at old s
      → (t : State) × g.is_at new t × Turns (Happens (g.capacity_of old)) turn s text t × g.leaves_only old new (s ∷ t ∷ [])
  turn_leaves (Ask event) old new text (answer, called, tells) honest s at =
      let happens = (call old new event answer called).happens honest s at in
      (happens.0, happens.1.0, (answer, happens.1.1, tells), happens.1.2)
  turn_leaves (Refuse r) old new text (told, same) honest s at = (s, at_same old new same s at, (told, refl), leaves_same old new same s at honest)
  turn_leaves End old new text (told, same) honest s at = (s, at_same old new same s at, (told, refl), leaves_same old new same s at honest)

  pub item_leaves : (old new : E) (i : Item) (text : List ℕ) → Replied g.called g.side_of old i text new → g.is_honest new → (s : State) → g.is_at old s
      → (t : State) × g.is_at new t × Replied (Happens (g.capacity_of old)) side_in s i text t × g.leaves_only old new (s ∷ t ∷ [])
  item_leaves old new i text (turn, comes, turns) honest s at =
      let left = turn_leaves turn old new text turns honest s at in
      (left.0, left.1, (turn, subst (λ (n : ℕ). ComesTo n i.asked i.payload turn) (sym (is.same_side old s at)) comes, left.2), left.3)

  -- whether the engine has failed after a turn
  turn_tells : (turn : Turn) (old new : E) (text : List ℕ) → Turns g.called turn old text new → Turns IsTold turn (g.has_failed old) text (g.has_failed new)
  turn_tells (Ask event) old new text (answer, called, tells) = (answer, (call old new event answer called).told, tells)
  turn_tells (Refuse r) old new text (told, same) = (told, ap g.has_failed same)
  turn_tells End old new text (told, same) = (told, ap g.has_failed same)

  pub item_tells : (n : ℕ) (old new : E) (i : Item) (text : List ℕ) → g.side_of old ≡ n → Replied g.called g.side_of old i text new → Replied IsTold (λ _. n) (g.has_failed old) i text (g.has_failed new)
  item_tells n old new i text side (turn, comes, turns) = (turn, subst (λ (m : ℕ). ComesTo m i.asked i.payload turn) side comes, turn_tells turn old new text turns)
