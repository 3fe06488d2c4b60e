-- The promises of a session: its calls, and what follows from them (defined by this product).
use Rattle.std.specs.Prelude.{◌≡◌, ◌≤◌, ℕ, Bool, true, false, IsTrue, List, ◌∷◌, ◌++◌, map, codes, decimal, Option, Some, Result}
use Rattle.lattice.specs.declared.refusal.Refusal.TheVariants.{Device}
use Rattle.catalogue.specs.Reading.{HasRisen}
use Rattle.edits.specs.declared.command.Command.{Command}
use Rattle.engine.specs.declared.event.Event.TheVariants as ask
use Rattle.engine.specs.declared.event.Reply.TheVariants as reply
use Rattle.engine.specs.Engines.{AreAt, LeaveLater}
use Rattle.engine.specs.Events.{Happens}
use Rattle.engine.specs.Runs.{last_of}
use Rattle.engine.specs.State.{State}
use Rattle.engine.specs.Told.{IsTold}
use Rattle.engine.specs.Members.{members}
use Rattle.engine.specs.declared.engine.Engine.{Ghosts}
use Rattle.lines.specs.Grammar.{Asked, AskImport, AskEvent}
use Rattle.lines.specs.declared.language.Language.{Language}
use Rattle.lines.specs.Replies.{ok_line, refusal_text}
use Rattle.serving.specs.Answers.{Replied}
use Rattle.serving.specs.Items.{Item}
use Rattle.serving.specs.Served.{Outcome}
use Rattle.serving.specs.declared.session.ServeFault.{ServeFault}

abbrev pub asks_command : Option Asked → Bool
asks_command (Some (AskImport name len)) = true
asks_command (Some (AskEvent (ask.Do c))) = true
asks_command _ = false

-- The reply isn't a refusal.
abbrev pub IsOkText : List ℕ → Type 0
IsOkText text = (rest : List ℕ) × (text ≡ codes "OK" ++ rest)

-- the side of a state's tiles
abbrev pub side_in : State → ℕ
side_in s = s.contents.mosaic.side

module _ {E : Type 0} (g : Ghosts E) where
  -- A command was applied, and the engine answered the number in the text.
  abbrev pub IsDone : E → List ℕ → E → Type 0
  IsDone old text new = (c : Command) × (k : ℕ) × g.called old (ask.Do c) (reply.Done k) new × (text ≡ ok_line (decimal k))

  -- What stays true over items, on any disk. No item makes a dishonest disk honest.
  pub record Stays (old new : E) : Type 0 where
    pub side : g.side_of new ≡ g.side_of old
    pub capacity : g.capacity_of new ≡ g.capacity_of old
    pub honest : g.is_honest new → g.is_honest old
    pub failures : g.failures old ≤ g.failures new

  -- what is promised for the reply to an item, on any disk
  pub record Answers (old : E) (i : Item) (text : List ℕ) (new : E) : Type 0 where
    -- If the item is an event, the engine was asked, and the text is its answer.
    pub replied : Replied g.called g.side_of old i text new
    -- An `OK` for a command is written only if the engine applied the command and answered so.
    pub done : IsTrue (asks_command i.asked) → IsOkText text → IsDone old text new
    -- A fault of the disk is written as `ERR 20 Device`, and no other answer is.
    pub fault : g.has_failed old ≡ false → g.has_failed new ≡ true → text ≡ refusal_text Device
    pub stays : Stays old new
    pub blamed : text ≡ refusal_text Device → HasRisen (g.failures old) (g.failures new)

  -- the states of the engines, one after each item
  pub record GoesThrough (language : Language) (before after written new : Option (List ℕ)) (old : E) (engines : List E) (result : Result (Unit {0}) ServeFault) (s : State) (states : List State) : Type 0 where
    pub outcome : Outcome language (Replied (Happens (g.capacity_of old)) side_in) before after written new s states result
    pub at : AreAt (members g) (old ∷ engines) (s ∷ states)
    -- A stop since the engine after an item leaves the state after that item or a later one.
    pub later : LeaveLater (members g) (old ∷ engines) (last_of old engines) (s ∷ states)

  -- All promises of `serve` about an engine, with the engine after each item.
  pub record Serves (language : Language) (before after written new : Option (List ℕ)) (old : E) (engines : List E) (result : Result (Unit {0}) ServeFault) : Type 0 where
    -- the calls and their replies
    pub answers : Outcome language Answers before after written new old engines result
    -- on an honest disk: the states of the run
    pub states : g.is_honest (last_of old engines) → (s : State) → g.is_at old s → (states : List State) × GoesThrough language before after written new old engines result s states
    -- on any disk, honest or not: what the replies show about whether the engine has failed
    pub told : Outcome language (Replied IsTold (λ _. g.side_of old)) before after written new (g.has_failed old) (map g.has_failed engines) result
    pub side : g.side_of (last_of old engines) ≡ g.side_of old
    pub capacity : g.capacity_of (last_of old engines) ≡ g.capacity_of old
    pub honest : g.is_honest (last_of old engines) → g.is_honest old
    pub failures : g.failures old ≤ g.failures (last_of old engines)
