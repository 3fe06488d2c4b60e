-- Differences between the languages of lines (defined by this product).
use Rattle.std.specs.Prelude.{◌≡◌, ◌⊎◌, ℕ, List, codes}
use Rattle.lattice.specs.Corners.{Corner}
use Rattle.engine.specs.declared.event.Event.TheVariants as ask
use Rattle.lines.specs.Grammar.{Asked, AskEvent, AsksAlone, AsksOf, IsTextOf, LineAsks, spaced}
use Rattle.lines.specs.declared.language.Language.TheVariants.{Plain, Tiles}

-- The text begins with a word for all samples of a tile.
abbrev pub TextAsksTile : List ℕ → Asked → Type 0
TextAsksTile text a = (args : List (List ℕ)) × (((text ≡ spaced (codes "levels") args) × AsksOf ask.Levels args a)
    ⊎ (((text ≡ spaced (codes "directions") args) × AsksOf ask.Directions args a) ⊎ ((text ≡ spaced (codes "upstream") args) × AsksOf ask.Upstream args a)))

-- The text is the word for a store's numbers.
abbrev pub TextAsksInfo : List ℕ → Asked → Type 0
TextAsksInfo text a = (args : List (List ℕ)) × ((text ≡ spaced (codes "info") args) × AsksAlone (AskEvent ask.Info) args a)

-- Every request of the plain language is one of the other language. The other adds only these.
pub record PlainIsAPart : Type 0 where
  pub kept : (line : List ℕ) (a : Asked) → LineAsks Plain line a → LineAsks Tiles line a
  pub besides : (line : List ℕ) (a : Asked) → LineAsks Tiles line a → LineAsks Plain line a ⊎ ((text : List ℕ) × (IsTextOf line text × (TextAsksTile text a ⊎ TextAsksInfo text a)))
  pub no_levels : (line : List ℕ) (c : Corner) → LineAsks Plain line (AskEvent (ask.Levels c)) → ⊥
  pub no_directions : (line : List ℕ) (c : Corner) → LineAsks Plain line (AskEvent (ask.Directions c)) → ⊥
  pub no_upstream : (line : List ℕ) (c : Corner) → LineAsks Plain line (AskEvent (ask.Upstream c)) → ⊥
  pub no_info : (line : List ℕ) → LineAsks Plain line (AskEvent ask.Info) → ⊥
