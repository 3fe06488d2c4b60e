-- Events that only ask.
use Rattle.engine.specs.declared.event.Event.{Event}
use Rattle.engine.specs.declared.event.Event.TheVariants as ask

-- the event only asks: it is no command, no step and no reopening
abbrev pub OnlyAsks : Event → Type 0
OnlyAsks (ask.Do c) = ⊥
OnlyAsks ask.Step = ⊥
OnlyAsks ask.Reopen = ⊥
OnlyAsks event = Unit {0}
