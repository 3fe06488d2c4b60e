-- Questions by lines (defined by this product).
use Rattle.std.specs.Prelude.{◌≡◌, ◌≤◌, ℕ, min, List, length, take}
use Rattle.lattice.specs.declared.refusal.Refusal.{Refusal}
use Rattle.lattice.specs.declared.refusal.Refusal.TheVariants.{BadLine, BadName}
use Rattle.engine.specs.Engines.{IsCall}
use Rattle.engine.specs.Members.{members}
use Rattle.engine.specs.declared.engine.Engine.{Ghosts}
use Rattle.engine.specs.declared.event.Event.{Event}
use Rattle.engine.specs.declared.event.Reply.{Reply}
use Rattle.lines.specs.Grammar.{AskEvent, AskNoTile, LineAsks}
use Rattle.lines.specs.Questions.{OnlyAsks}
use Rattle.lines.specs.Telling.{Tells}
use Rattle.lines.specs.declared.language.Language.TheVariants.{Tiles}

-- the line asks only, and for this
abbrev pub AsksOnly : List ℕ → Event → Type 0
AsksOnly line event = LineAsks Tiles line (AskEvent event) × OnlyAsks event

-- the refusal of a line that isn't a question, or that names no tile
abbrev pub IsNoQuestion : List ℕ → Refusal → Type 0
IsNoQuestion line BadName = LineAsks Tiles line AskNoTile
IsNoQuestion line BadLine = ((event : Event) → AsksOnly line event → ⊥) × (LineAsks Tiles line AskNoTile → ⊥)
IsNoQuestion line r = ⊥

-- `count` is the number of bytes, at most the largest 64-bit number. They are at the front of the slice if it has room.
pub record IsPut (bytes : List ℕ) (into : List ℕ) (count : ℕ) : Type 0 where
  pub counted : count ≡ min (length bytes) 18446744073709551615
  pub put : length bytes ≤ length into → take (length bytes) into ≡ bytes

module _ {E : Type 0} (g : Ghosts E) where
  -- The line's question was asked, and its reply was written to the slice.
  pub record IsReplied (old new : E) (line : List ℕ) (into : List ℕ) (count : ℕ) : Type 0 where
    pub event : Event
    pub asks : AsksOnly line event
    pub answer : Reply
    pub call : IsCall (members g) old event answer new
    pub text : List ℕ
    pub told : Tells answer text
    pub put : IsPut text into count
