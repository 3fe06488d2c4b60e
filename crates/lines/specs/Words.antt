-- The words of a text (defined by this product).
use Rattle.std.specs.Prelude.{◌≢◌, ℕ, List, [], ◌∷◌, All, if◌then◌else◌, ◌==◌, Option, Some, None}
use Rattle.std.specs.Coded.{Coded, coded_list, coded_ℕ}

-- The bytes have no space.
abbrev pub HasNoSpace : List ℕ → Type 0
HasNoSpace bytes = All (λ b. b ≢ 32) bytes

-- the words with a byte put before the first word
abbrev pub onto_first : ℕ → List (List ℕ) → List (List ℕ)
onto_first b [] = (b ∷ []) ∷ []
onto_first b (w ∷ ws) = (b ∷ w) ∷ ws

-- the bytes cut at each space
abbrev pub cut : List ℕ → List (List ℕ)
cut [] = [] ∷ []
cut (b ∷ bs) = if b == 32 then [] ∷ cut bs else onto_first b (cut bs)

-- the words that are left, if there are any
abbrev pub words_of : Option (List ℕ) → List (List ℕ)
words_of None = []
words_of (Some rest) = cut rest

abbrev pub words_code : Coded (List (List ℕ))
words_code = coded_list (coded_list coded_ℕ)
