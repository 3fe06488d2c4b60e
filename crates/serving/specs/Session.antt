-- An item as the server stores it, and one step of a session.
use Rattle.std.specs.Prelude.{◌≡◌, ◌⊎◌, ℕ, List, [], ◌∷◌, take, flat_map, All, Option, Some, None, option_map, IfSome, Result, Ok, Err, Vec}
use Rattle.std.specs.Io.KnownBytes.{Consumes, Appends, IsAtEnd, prepend_known}
use Rattle.lines.specs.Ahead.{IsNear}
use Rattle.lines.specs.Grammar.{AskQuit}
use Rattle.lines.specs.declared.language.Language.{Language}
use Rattle.serving.specs.Items.{Item, spelled, IsItem, GoesOn, IsBegun}
use Rattle.lines.specs.Requests.{asked}
use Rattle.serving.specs.Served.{Replies, Ends}
use Rattle.lines.specs.declared.source.Extent.{Extent}
use Rattle.lines.specs.declared.source.Extent.TheVariants.{Whole}
use Rattle.serving.specs.declared.reading.KeptItem.{KeptItem}
use Rattle.serving.specs.declared.session.Next.{Next}
use Rattle.serving.specs.declared.session.Next.TheVariants.{More, End}
use Rattle.serving.specs.declared.session.ServeFault.{ServeFault}
use Rattle.serving.specs.declared.session.ServeFault.TheVariants.{Input, Output}

-- the bytes of a payload, or nothing if they weren't stored
abbrev pub Stored : {A : Type 0} → Option (Vec ℕ A) → List ℕ → Type 0
Stored None bytes = Unit {0}
Stored (Some v) bytes = v.items ≡ bytes

module _ (language : Language) where
  -- The stored item is this item of the input.
  pub record Holds (kept : KeptItem) (i : Item) : Type 0 where
    pub asked : option_map asked kept.request ≡ i.asked
    pub payload : Stored kept.payload i.payload
    pub item : IsItem language kept.extent i

  -- One step, from the bytes to be taken and the bytes written before it to both after it.
  abbrev pub Steps : {X : Type 0} → (X → Item → List ℕ → X → Type 0) → Option (List ℕ) → Option (List ℕ) → Option (List ℕ) → Option (List ℕ) → X → List X → Result Next ServeFault → Type 0
  Steps IsRight before after written new s states (Ok More) =
      (i : Item) × (text : List ℕ) × GoesOn language i × Consumes before after (spelled i) × Appends written new text × Replies IsRight s (i ∷ []) text states
  Steps IsRight before after written new s states (Ok End) =
      (last : List Item) × (text : List ℕ) × IfSome before (λ input. Ends language input last) × Appends written new text × Replies IsRight s last text states
  Steps IsRight before after written new s states (Err Input) =
      (rest : List ℕ) × IsBegun language rest × Consumes before after rest × Appends written new [] × (states ≡ [])
  Steps IsRight before after written new s states (Err Output) =
      (i : Item) × (extent : Extent) × (text : List ℕ) × (n : ℕ) × IsItem language extent i × Consumes before after (spelled i) × Appends written new (take n text)
      × Replies IsRight s (i ∷ []) text states

  -- The last step ends the reading: the input is at its end, or the next bytes were `quit`, and less than one read's
  -- bytes are in the buffer after it.
  abbrev pub EndsReading : Option (List ℕ) → (ahead : List ℕ) → Option (List ℕ) → Type 0
  EndsReading before ahead after = ((ahead ≡ []) × IsAtEnd after)
      ⊎ ((quit : Item) × IsItem language Whole quit × (quit.asked ≡ Some AskQuit) × IsNear ahead × Consumes before (prepend_known ahead after) (spelled quit))

  -- the items so far and their replies
  abbrev pub SoFar : {X : Type 0} → (X → Item → List ℕ → X → Type 0) → Option (List ℕ) → Option (List ℕ) → Option (List ℕ) → Option (List ℕ) → X → List X → Type 0
  SoFar IsRight before after written new s states = (items : List Item) × (text : List ℕ) × All (GoesOn language) items
      × Consumes before after (flat_map spelled items) × Appends written new text × Replies IsRight s items text states
