-- The items of an input: a line, or an import line with its payload (defined by this product).
use Rattle.std.specs.Prelude.{◌≡◌, ◌≢◌, ℕ, ◌<◌, List, [], ◌∷◌, ◌++◌, length, Option, Some, None, ◌⊎◌}
use Rattle.lines.specs.Grammar.{Asked, AskImport, AskQuit, LineAsks}
use Rattle.lines.specs.declared.language.Language.{Language}
use Rattle.lines.specs.Lines.{IsLine, line_feed, Reaches}
use Rattle.lines.specs.declared.source.Extent.{Extent}
use Rattle.lines.specs.declared.source.Extent.TheVariants.{Whole, Cut}

-- a line, whether an LF ended it, what it asks for, and the bytes of its payload that were read
pub record Item : Type 0 where
  pub line : List ℕ
  pub fed : Extent
  pub asked : Option Asked
  pub payload : List ℕ

abbrev pub spelled : Item → List ℕ
spelled i = i.line ++ (line_feed i.fed ++ i.payload)

-- the number of payload bytes that follow the line
abbrev pub payload_len : Option Asked → ℕ
payload_len (Some (AskImport name len)) = len
payload_len _ = 0

-- Only a line with its LF has a payload. The item is cut short if its line or its payload is.
abbrev pub Came : Extent → Extent → ℕ → ℕ → Type 0
Came Whole extent count len = Reaches extent count len
Came Cut extent count len = (extent ≡ Cut) × (count ≡ 0)

module _ (language : Language) where
  -- The line asks for this, or for nothing if the language lacks it.
  abbrev pub AsksFor : List ℕ → Option Asked → Type 0
  AsksFor line (Some a) = LineAsks language line a
  AsksFor line None = (a : Asked) → LineAsks language line a → ⊥

  -- The item is whole, or the end of the input cuts it short.
  pub record IsItem (extent : Extent) (i : Item) : Type 0 where
    pub line : IsLine i.line
    pub some : i.fed ≡ Cut → i.line ≢ []
    pub asked : AsksFor i.line i.asked
    pub came : Came i.fed extent (length i.payload) (payload_len i.asked)

  -- a whole item that isn't quit
  pub record GoesOn (i : Item) : Type 0 where
    pub whole : IsItem Whole i
    pub on : i.asked ≢ Some AskQuit

  -- a prefix of an item that was read before a fault
  abbrev pub IsBegun : List ℕ → Type 0
  IsBegun rest = IsLine rest
      ⊎ ((line bytes : List ℕ) × (a : Option Asked) × IsLine line × AsksFor line a × (length bytes < payload_len a) × (rest ≡ line ++ (10 ∷ bytes)))
