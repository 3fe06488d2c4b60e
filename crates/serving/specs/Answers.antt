-- The reply to each item (defined by this product).
use Rattle.std.specs.Prelude.{◌≡◌, ◌≢◌, ◌⊎◌, ℕ, ◌*◌, ◌<◌, List, length, Option, Some, None}
use Rattle.lattice.specs.Corners.{Corner}
use Rattle.lattice.specs.declared.refusal.Refusal.{Refusal}
use Rattle.lattice.specs.declared.refusal.Refusal.TheVariants.{BadLine, BadName, BadLength, NoMemory}
use Rattle.hgt.specs.Names.{IsName}
use Rattle.edits.specs.declared.command.Command.TheVariants.{Import}
use Rattle.engine.specs.declared.event.Event.{Event}
use Rattle.engine.specs.declared.event.Event.TheVariants as ask
use Rattle.engine.specs.declared.event.Reply.{Reply}
use Rattle.lines.specs.Grammar.{Asked, AskImport, AskEvent, AskNoTile, AskQuit, NamesNone}
use Rattle.lines.specs.Replies.{done_text, refusal_text}
use Rattle.lines.specs.Telling.{Tells}
use Rattle.serving.specs.Items.{Item}

-- What an item is for the engine: an event, a refusal without a call, or the end.
pub data Turn : Type 0 where
  Ask : (event : Event) → Turn
  Refuse : (refusal : Refusal) → Turn
  End : Turn

-- An import with a payload of the right length is an event, or NoMemory if there was no room for the payload.
abbrev pub PayloadComesTo : Corner → List ℕ → Turn → Type 0
PayloadComesTo c payload turn = (turn ≡ Refuse NoMemory) ⊎ (turn ≡ Ask (ask.Do (Import c payload)))

-- An import's name is judged first, then its length, then the payload.
abbrev pub ImportComesTo : ℕ → List ℕ → ℕ → List ℕ → Turn → Type 0
ImportComesTo side name len payload turn =
    (NamesNone name × (turn ≡ Refuse BadName))
    ⊎ ((c : Corner) × IsName name c × (
    (((len ≢ 2 * (side * side)) ⊎ (length payload < len)) × (turn ≡ Refuse BadLength))
    ⊎ ((len ≡ 2 * (side * side)) × (length payload ≡ len) × PayloadComesTo c payload turn)))

-- how an item of this line and payload is answered, for tiles of this side; a line outside the grammar is BadLine
abbrev pub ComesTo : ℕ → Option Asked → List ℕ → Turn → Type 0
ComesTo side None payload turn = turn ≡ Refuse BadLine
ComesTo side (Some (AskImport name len)) payload turn = ImportComesTo side name len payload turn
ComesTo side (Some (AskEvent event)) payload turn = turn ≡ Ask event
ComesTo side (Some AskNoTile) payload turn = turn ≡ Refuse BadName
ComesTo side (Some AskQuit) payload turn = turn ≡ End

-- The definitions below are for any relation between an event, its answer, and the states before and after.
module _ {X : Type 0} (Asks : X → Event → Reply → X → Type 0) where
  -- the text that answers a turn
  abbrev pub Turns : Turn → X → List ℕ → X → Type 0
  Turns (Ask event) x text y = (answer : Reply) × Asks x event answer y × Tells answer text
  Turns (Refuse r) x text y = (text ≡ refusal_text r) × (y ≡ x)
  Turns End x text y = (text ≡ done_text) × (y ≡ x)

  -- the text that answers an item, for tiles of this side
  abbrev pub Replied : (X → ℕ) → X → Item → List ℕ → X → Type 0
  Replied side_of x i text y = (turn : Turn) × ComesTo (side_of x) i.asked i.payload turn × Turns turn x text y
