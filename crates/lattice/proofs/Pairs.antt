-- Values of two bytes each: their number, and the value at an index.
use Rattle.std.proofs.Common.{◌≡◌, ℕ, zero, suc, ◌+◌, ◌*◌, ◌<◌, List, [], ◌∷◌, length, get_or, ap, ◌∙◌, arith}

get_or_third : {A : Type 0} (x y : A) (xs : List A) (i j : ℕ) (d : A) → j ≡ suc (suc i) → get_or (x ∷ y ∷ xs) j d ≡ get_or xs i d
get_or_third x y xs i j d e = ap (λ n. get_or (x ∷ y ∷ xs) n d) e

-- a function that reads one value from each two bytes
module _ {A : Type 0} (read : List ℕ → List A) (pair : ℕ → ℕ → A) (none : read [] ≡ [])
    (more : (b c : ℕ) (rest : List ℕ) → read (b ∷ c ∷ rest) ≡ pair b c ∷ read rest) where
  pub length-pairs : (bytes : List ℕ) (n : ℕ) → length bytes ≡ 2 * n → length (read bytes) ≡ n
  length-pairs [] n h = ap length none ∙ omega arith
  length-pairs (b ∷ []) n h = absurd (omega arith)
  length-pairs (b ∷ c ∷ rest) zero h = absurd (omega arith)
  length-pairs (b ∷ c ∷ rest) (suc n) h = ap length (more b c rest) ∙ ap suc (length-pairs rest n (omega arith))

  pub get_or-pairs : (bytes : List ℕ) (i : ℕ) (d : A) → 2 * i + 1 < length bytes → get_or (read bytes) i d ≡ pair (get_or bytes (2 * i) 0) (get_or bytes (2 * i + 1) 0)
  get_or-pairs [] i d h = absurd (omega arith)
  get_or-pairs (b ∷ []) i d h = absurd (omega arith)
  get_or-pairs (b ∷ c ∷ rest) zero d h = ap (λ values. get_or values 0 d) (more b c rest)
  get_or-pairs (b ∷ c ∷ rest) (suc i) d h =
      let first : get_or (b ∷ c ∷ rest) (2 * suc i) 0 ≡ get_or rest (2 * i) 0 = get_or_third b c rest (2 * i) (2 * suc i) 0 (omega arith) in
      let second : get_or (b ∷ c ∷ rest) (2 * suc i + 1) 0 ≡ get_or rest (2 * i + 1) 0 = get_or_third b c rest (2 * i + 1) (2 * suc i + 1) 0 (omega arith) in
      rw (more b c rest, first, second) (get_or-pairs rest i d (omega arith))
