-- Commands that are each accepted or refused by their tests (`IsDecided`) lead to the mosaic after them (`after`).
use Rattle.std.proofs.Common.{◌≡◌, ℕ, ◌+◌, List, [], ◌∷◌, refl, sym, ap, ◌∙◌, arith}
use Rattle.std.specs.Prelude.{Ok, Err}
use Rattle.std.proofs.lemmas.List.Elements.{All-head, All-tail}
use Rattle.lattice.specs.Mosaic.{Mosaic}
use Rattle.lattice.specs.declared.refusal.Refusal.{Refusal}
use Rattle.lattice.specs.declared.refusal.Refusal.TheVariants.{Device, NoMemory, Failed, Worn}
use Rattle.edits.specs.declared.command.Command.{Command}
use Rattle.edits.specs.Effect.{effect, after, accepted}
use Rattle.engine.specs.State.{State}
use Rattle.engine.specs.Outcomes.{AppliesNot}
use Rattle.engine.specs.Events.{Happens}
use Rattle.engine.specs.Runs.{last_of}
use Rattle.engine.specs.CommandLaws.{IsDecided, IsAfter, CommandsComeToTheirEffects}
use Rattle.engine.specs.declared.event.Event.TheVariants as ask
use Rattle.engine.specs.declared.event.Reply.{Reply}
use Rattle.engine.specs.declared.event.Reply.TheVariants as reply

module _ (capacity : ℕ) (m : Mosaic) (c : Command) (rest : List Command) where
  after_ok : (new : Mosaic) → effect capacity m c ≡ Ok new → after capacity m (c ∷ rest) ≡ after capacity new rest
  after_ok new is = rw is refl

  after_err : (r : Refusal) → effect capacity m c ≡ Err r → after capacity m (c ∷ rest) ≡ after capacity m rest
  after_err r is = rw is refl

  accepted_ok : (new : Mosaic) → effect capacity m c ≡ Ok new → accepted capacity m (c ∷ rest) ≡ 1 + accepted capacity new rest
  accepted_ok new is = rw is refl

  accepted_err : (r : Refusal) → effect capacity m c ≡ Err r → accepted capacity m (c ∷ rest) ≡ accepted capacity m rest
  accepted_err r is = rw is (omega arith)

one_more : (k n : ℕ) → (k + 1) + n ≡ k + (1 + n)
one_more k n = omega arith

module _ (capacity : ℕ) (s t : State) (c : Command) (rest : List Command) where
  -- the first command, and then the others
  one_refused : (r : Refusal) → IsDecided (reply.Refused r) → AppliesNot capacity s c r t → (last : State) → IsAfter capacity rest t last → IsAfter capacity (c ∷ rest) s last
  one_refused Device decided applies last more = absurd decided
  one_refused NoMemory decided applies last more = absurd decided
  one_refused Failed decided applies last more = absurd decided
  one_refused Worn decided applies last more = absurd decided
  one_refused r decided applies last more =
      let same = applies.stays.same in
      record {
        mosaic = more.mosaic ∙ ap (λ (u : State). after capacity u.contents.mosaic rest) same ∙ sym (after_err capacity s.contents.mosaic c rest r applies.refused);
        count = more.count ∙ ap (λ (u : State). u.contents.count + accepted capacity u.contents.mosaic rest) same
            ∙ ap (λ (k : ℕ). s.contents.count + k) (sym (accepted_err capacity s.contents.mosaic c rest r applies.refused));
      }

  one : (answer : Reply) → IsDecided answer → Happens capacity s (ask.Do c) answer t → (last : State) → IsAfter capacity rest t last → IsAfter capacity (c ∷ rest) s last
  one (reply.Done k) decided applies last more =
      let new = applies.effect_is.0 in
      let makes = applies.effect_is.1.0 in
      let same = applies.effect_is.1.1 in
      record {
        mosaic = more.mosaic ∙ ap (λ (u : State). after capacity u.contents.mosaic rest) same ∙ sym (after_ok capacity s.contents.mosaic c rest new makes);
        count = more.count ∙ ap (λ (u : State). u.contents.count + accepted capacity u.contents.mosaic rest) same
            ∙ one_more s.contents.count (accepted capacity new rest) ∙ ap (λ (k : ℕ). s.contents.count + k) (sym (accepted_ok capacity s.contents.mosaic c rest new makes));
      }
  one (reply.Refused r) decided applies last more = one_refused r decided applies last more
  one answer decided applies last more = absurd applies

pub come_to_their_effects : CommandsComeToTheirEffects
come_to_their_effects capacity s [] [] [] run decided = record { mosaic = refl; count = omega arith }
come_to_their_effects capacity s (c ∷ rest) (answer ∷ answers) (t ∷ states) run decided =
    one capacity s t c rest answer (All-head IsDecided answer answers decided) run.0 (last_of t states)
    (come_to_their_effects capacity t rest answers states run.1 (All-tail IsDecided answer answers decided))
come_to_their_effects capacity s commands answers states run decided = absurd run
