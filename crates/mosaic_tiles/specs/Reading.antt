-- Questions about a store that another program may be writing (defined by this product).
use Rattle.std.specs.Prelude.{◌≡◌, ◌⊎◌, ℕ, List, [], ◌∷◌, All, Option, Some, Result, Ok, Err, codes, true}
use Rattle.disk.specs.declared.disk.Disk.{Ghosts}
use Rattle.engine.specs.Engines.{IsCall}
use Rattle.engine.specs.declared.event.Event.{Event}
use Rattle.engine.specs.declared.event.Reply.{Reply}
use Rattle.lattice.specs.declared.refusal.Refusal.{Refusal}
use Rattle.lattice.specs.declared.refusal.Refusal.TheVariants.{BadLine, BadName, Device}
use Rattle.lines.specs.Grammar.{Asked, AskEvent, AskNoTile, AskQuit}
use Rattle.lines.specs.Questions.{OnlyAsks}
use Rattle.lines.specs.Replies.{changing_text, done_text, refusal_text}
use Rattle.lines.specs.Telling.{Tells}
use Rattle.roots.specs.RootTests.{HasTested}
use Rattle.roots.specs.Slots.{IsNotPassed, StandsOpen, other}
use Rattle.roots.specs.declared.roots.NotOpened.{NotOpened}
use Rattle.server.specs.CommandLine.{IsOption}
use Rattle.serving.specs.Answers.{Turn, Ask, Refuse, End}
use Rattle.serving.specs.Items.{Item}
use Rattle.store.specs.RootTests.{Tests}
use Rattle.store.specs.Sessions.{IsOpening}
use Rattle.store.specs.StoreState.{members}
use Rattle.store.specs.Stores.{disk_of, root_of, slot_of}
use Rattle.store.specs.declared.store.Store.{Store}
use Rattle.mosaic_tiles.specs.declared.store_reader.Unanswered.{Unanswered}
use Rattle.mosaic_tiles.specs.declared.store_reader.Unanswered.TheVariants.{Refused, Changing}

-- the words ask to read questions for the store at this path
abbrev pub AsksToRead : List (List ℕ) → List ℕ → Type 0
AsksToRead words path = All (λ word. IsOption word → ⊥) words × (words ≡ codes "read" ∷ path ∷ [])

-- why there is no answer, as a reply
abbrev pub unanswered_text : Unanswered → List ℕ
unanswered_text (Refused r) = refusal_text r
unanswered_text Changing = changing_text

-- an answer is told, or why there is none
abbrev pub TellsAnswer : Result Reply Unanswered → List ℕ → Type 0
TellsAnswer (Ok answer) text = Tells answer text
TellsAnswer (Err why) text = text ≡ unanswered_text why

-- what a line comes to: a question, or a refusal where it is none
abbrev pub ComesTo : Option Asked → Turn → Type 0
ComesTo (Some (AskEvent event)) turn = (OnlyAsks event × (turn ≡ Ask event)) ⊎ ((OnlyAsks event → ⊥) × (turn ≡ Refuse BadLine))
ComesTo (Some AskNoTile) turn = turn ≡ Refuse BadName
ComesTo (Some AskQuit) turn = turn ≡ End
ComesTo asked turn = turn ≡ Refuse BadLine

module _ {D : Type 0} (g : Ghosts D) where
  -- The root was the current one, then the question was asked, and then the root stood unchanged behind its gate.
  pub record Confirmed (old : Store D g) (event : Event) (answer : Reply) (new : Store D g) : Type 0 where
    pub ready : Store D g
    pub asked : Store D g
    pub current : Tests g (IsNotPassed (other (slot_of old))) old ready (Ok true)
    pub call : IsCall (members g) ready event answer asked
    pub stands : Tests g StandsOpen asked new (Ok true)
    -- the gate was read first
    pub tested : HasTested g (slot_of asked) (root_of asked) (disk_of asked) true (disk_of new)

  -- a question that was confirmed, and the store then
  pub record Question : Type 0 where
    pub event : Event
    pub answer : Reply
    pub store : Store D g

  -- these questions were asked since the opening, the newest first, and each was confirmed
  abbrev pub AreConfirmed : Store D g → List Question → Store D g → Type 0
  AreConfirmed first [] store = store ≡ first
  AreConfirmed first (q ∷ earlier) store = (store ≡ q.store) × (before : Store D g) × AreConfirmed first earlier before × Confirmed before q.event q.answer store

  -- a store that was opened, and was asked nothing but what was confirmed
  abbrev pub IsConfirmed : Store D g → Type 0
  IsConfirmed store = ∥ ((disk : D) × (first : Store D g) × (questions : List Question) × IsOpening g disk (Ok first) × AreConfirmed first questions store) ∥₁

  -- such a store was asked this, answered so, and that was confirmed
  abbrev pub IsAnswered : Event → Reply → Type 0
  IsAnswered event answer = (old new : Store D g) × IsConfirmed old × Confirmed old event answer new

  -- an opening was refused so, or the file couldn't be read
  abbrev pub IsUnopened : Refusal → Type 0
  IsUnopened r = (r ≡ Device) ⊎ ((disk : D) × (e : NotOpened D) × IsOpening g disk (Err e) × (r ≡ e.refusal))

  abbrev pub IsUnanswered : Unanswered → Type 0
  IsUnanswered (Refused r) = IsUnopened r
  IsUnanswered Changing = Unit {0}

  -- a question was answered, or it wasn't
  abbrev pub AnswersOrNot : Event → Result Reply Unanswered → Type 0
  AnswersOrNot event (Ok answer) = IsAnswered event answer
  AnswersOrNot event (Err why) = IsUnanswered why

  -- what is told then
  abbrev pub TellsTurn : Turn → List ℕ → Type 0
  TellsTurn (Ask event) text = (result : Result Reply Unanswered) × AnswersOrNot event result × TellsAnswer result text
  TellsTurn (Refuse r) text = text ≡ refusal_text r
  TellsTurn End text = text ≡ done_text

  abbrev pub Responds : Item → List ℕ → Type 0
  Responds i text = (turn : Turn) × ComesTo i.asked turn × TellsTurn turn text
