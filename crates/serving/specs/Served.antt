-- The replies that are written for an input (defined by this product).
use Rattle.std.specs.Prelude.{◌≡◌, ◌⊎◌, ℕ, List, [], ◌∷◌, ◌++◌, take, flat_map, All, Option, Some, IfSome, Result, Ok, Err}
use Rattle.std.specs.Io.KnownBytes.{Consumes, Appends, IsAtEnd}
use Rattle.lines.specs.Ahead.{IsNear}
use Rattle.lines.specs.Grammar.{AskQuit}
use Rattle.lines.specs.declared.language.Language.{Language}
use Rattle.serving.specs.Items.{Item, spelled, IsItem, GoesOn, IsBegun}
use Rattle.lines.specs.declared.source.Extent.{Extent}
use Rattle.lines.specs.declared.source.Extent.TheVariants.{Whole, Cut}
use Rattle.serving.specs.declared.session.ServeFault.{ServeFault}
use Rattle.serving.specs.declared.session.ServeFault.TheVariants.{Input, Output}

-- The replies to the items in order, as one text, and the state after each item. The given relation says when a reply
-- is right: from the state before it, the item, the reply and the state after it.
abbrev pub Replies : {X : Type 0} → (X → Item → List ℕ → X → Type 0) → X → List Item → List ℕ → List X → Type 0
Replies IsRight s [] text [] = text ≡ []
Replies IsRight s (i ∷ is) text (t ∷ states) = (reply more : List ℕ) × (text ≡ reply ++ more) × IsRight s i reply t × Replies IsRight t is more states
Replies IsRight s _ text _ = ⊥

module _ (language : Language) where
  -- An input ends with nothing more, with an item that its end cuts short, or with `quit` and any further bytes.
  abbrev pub Ends : List ℕ → List Item → Type 0
  Ends end [] = end ≡ []
  Ends end (i ∷ []) = (IsItem language Cut i × (end ≡ spelled i)) ⊎ ((rest : List ℕ) × IsItem language Whole i × (i.asked ≡ Some AskQuit) × (end ≡ spelled i ++ rest))
  Ends end _ = ⊥

  -- the items of an input
  abbrev pub AreItemsOf : List ℕ → List Item → Type 0
  AreItemsOf input items = (first last : List Item) × (end : List ℕ) × All (GoesOn language) first × Ends end last × (items ≡ first ++ last) × (input ≡ flat_map spelled first ++ end)

  -- the outcome of `serve`, from the contents of reader and writer before and after, and from the state after each item
  abbrev pub Outcome : {X : Type 0} → (X → Item → List ℕ → X → Type 0) → Option (List ℕ) → Option (List ℕ) → Option (List ℕ) → Option (List ℕ) → X → List X → Result (Unit {0}) ServeFault → Type 0
  -- Ok: the replies to all items of the input are written
  Outcome IsRight before after written new s states (Ok u) = (items : List Item) × (text : List ℕ)
      × IfSome before (λ input. AreItemsOf input items) × Appends written new text × Replies IsRight s items text states
  -- Input: the replies to all items that were read whole are written; of the next item a prefix was read
  Outcome IsRight before after written new s states (Err Input) = (items : List Item) × (rest text : List ℕ) × All (GoesOn language) items × IsBegun language rest
      × Consumes before after (flat_map spelled items ++ rest) × Appends written new text × Replies IsRight s items text states
  -- Output: a prefix of the replies to the items that were read is written
  Outcome IsRight before after written new s states (Err Output) = (items : List Item) × (i : Item) × (extent : Extent) × (text : List ℕ) × (n : ℕ) × (left : Option (List ℕ))
      × All (GoesOn language) items × IsItem language extent i × Consumes before left (flat_map spelled items ++ spelled i) × Replies IsRight s (items ++ i ∷ []) text states × Appends written new (take n text)

  -- Nothing is read after the end: the reader is at its end, or items and then `quit` were read. After `quit` at most
  -- the rest of the read that gave its LF was taken, which is less than one read gives.
  abbrev pub ReadsNoFurther : Option (List ℕ) → Option (List ℕ) → Type 0
  ReadsNoFurther before after = IsAtEnd after
      ⊎ ((items : List Item) × (quit : Item) × (ahead : List ℕ) × All (GoesOn language) items × IsItem language Whole quit × (quit.asked ≡ Some AskQuit) × IsNear ahead
      × Consumes before after (flat_map spelled items ++ spelled quit ++ ahead))
