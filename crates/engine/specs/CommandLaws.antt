-- The law of accepted commands: the result of a run of commands.
use Rattle.std.specs.Prelude.{◌≡◌, ℕ, ◌+◌, List, All, map}
use Rattle.lattice.specs.declared.refusal.Refusal.TheVariants.{Device, NoMemory, Failed, Worn}
use Rattle.edits.specs.declared.command.Command.{Command}
use Rattle.edits.specs.Effect.{after, accepted}
use Rattle.engine.specs.State.{State}
use Rattle.engine.specs.Events.{Happens}
use Rattle.engine.specs.Runs.{last_of, Through}
use Rattle.engine.specs.declared.event.Event.TheVariants as ask
use Rattle.engine.specs.declared.event.Reply.{Reply}
use Rattle.engine.specs.declared.event.Reply.TheVariants as reply

-- The command was accepted, or refused by its tests: not with Device, Failed, NoMemory or Worn.
abbrev pub IsDecided : Reply → Type 0
IsDecided (reply.Refused Device) = ⊥
IsDecided (reply.Refused NoMemory) = ⊥
IsDecided (reply.Refused Failed) = ⊥
IsDecided (reply.Refused Worn) = ⊥
IsDecided answer = Unit {0}

-- The second state has the mosaic after the commands, and its count has grown by the accepted ones.
pub record IsAfter (capacity : ℕ) (commands : List Command) (s t : State) : Type 0 where
  pub mosaic : t.contents.mosaic ≡ after capacity s.contents.mosaic commands
  pub count : t.contents.count ≡ s.contents.count + accepted capacity s.contents.mosaic commands

-- Commands that are each accepted or refused by their tests lead to the mosaic after them (`after`).
abbrev pub CommandsComeToTheirEffects : Type 0
CommandsComeToTheirEffects = (capacity : ℕ) (s : State) (commands : List Command) (answers : List Reply) (states : List State)
    → Through (Happens capacity) s (map ask.Do commands) answers states → All IsDecided answers → IsAfter capacity commands s (last_of s states)
