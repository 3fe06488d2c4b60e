-- The replies to the lines of a session, from the answers of its calls (defined by this product).
use Rattle.std.specs.Prelude.{◌≡◌, ℕ, List, [], ◌∷◌, ◌++◌, Option, Result}
use Rattle.disk.specs.declared.disk.Disk.{Ghosts}
use Rattle.engine.specs.Runs.{last_of}
use Rattle.engine.specs.declared.event.Event.{Event}
use Rattle.engine.specs.declared.event.Reply.{Reply}
use Rattle.lines.specs.declared.language.Language.{Language}
use Rattle.serving.specs.Answers.{Replied}
use Rattle.serving.specs.Served.{Outcome}
use Rattle.serving.specs.declared.session.ServeFault.{ServeFault}
use Rattle.store.specs.Sessions.{Asked, Made, last_store}
use Rattle.store.specs.Stores.{side_of}
use Rattle.store.specs.declared.store.Store.{Store}

module _ {D : Type 0} (g : Ghosts D) where
  -- One more call was made: this event, with this answer.
  abbrev pub GoesOnBy : List (Made g) → Event → Reply → List (Made g) → Type 0
  GoesOnBy calls event answer more = (made : Made g) × (made.call ≡ Asked event answer) × (more ≡ calls ++ made ∷ [])

  -- The replies are those to the items that were read. An item that is an event is one more call, and its reply is that
  -- call's answer. Any other item makes no call.
  pub record IsReplied (language : Language) (store : Store D g) (calls : List (Made g)) (before after written now : Option (List ℕ)) (result : Result (Unit {0}) ServeFault) : Type 0 where
    -- the calls so far, after each item
    pub through : List (List (Made g))
    pub replies : Outcome language (Replied GoesOnBy (λ so_far. side_of (last_store g store so_far))) before after written now [] through result
    pub all : last_of [] through ≡ calls
