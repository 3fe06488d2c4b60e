-- What the program's words ask for (defined by this product).
use Rattle.std.specs.Prelude.{◌≡◌, ℕ, List, [], ◌∷◌, All, codes}
use Rattle.lines.specs.Grammar.{IsNat}
use Rattle.server.specs.declared.arguments.Arguments.{Arguments}
use Rattle.server.specs.declared.arguments.Arguments.TheVariants.{Format, Import, Serve, Table, Check, Upgrade}

-- The word begins with a hyphen.
abbrev pub IsOption : List ℕ → Type 0
IsOption word = (rest : List ℕ) × (word ≡ 45 ∷ rest)

-- The words are a command word and its texts. Sides and capacities are NATs.
abbrev pub SpellsOut : List (List ℕ) → Arguments → Type 0
SpellsOut words (Format path side capacity) =
    (s c : List ℕ) × (words ≡ codes "format" ∷ path.now ∷ s ∷ c ∷ []) × IsNat s side × IsNat c capacity
SpellsOut words (Import path tile) = words ≡ codes "import" ∷ path.now ∷ tile.now ∷ []
SpellsOut words (Serve path) = words ≡ codes "serve" ∷ path.now ∷ []
SpellsOut words (Table side capacity) = (s c : List ℕ) × (words ≡ codes "table" ∷ s ∷ c ∷ []) × IsNat s side × IsNat c capacity
SpellsOut words (Check path) = words ≡ codes "check" ∷ path.now ∷ []
SpellsOut words (Upgrade path) = words ≡ codes "upgrade" ∷ path.now ∷ []

-- The words ask for this: none is an option, and they spell it.
abbrev pub AskedBy : List (List ℕ) → Arguments → Type 0
AskedBy words a = All (λ w. IsOption w → ⊥) words × SpellsOut words a

abbrev pub AskNothing : List (List ℕ) → Type 0
AskNothing words = (a : Arguments) → AskedBy words a → ⊥
