-- Lists with rising corners, by recursion. The definitions use indices.
use Rattle.lattice.proofs.Prelude.{AllAdjacentBelow, Bool, Corner, IsTrue, List, ℕ, [], arith, cond, false, filter, get_or, inl, inr, is_before, length, suc, sym, true, zero, ◌<◌, ◌∷◌, ◌≡◌}
use native.Mathlib.Numerals.{unary_clauses}
use Rattle.std.proofs.lemmas.Bool.{cases_order}
use Rattle.lattice.proofs.CornerOrder.{before_trans, before_apart}

module _ {X : Type 0} (key : X → Corner) where
  -- Each element of the list is after the corner.
  abbrev pub AllAfter : Corner → List X → Type 0
  AllAfter c [] = Unit {0}
  AllAfter c (x ∷ xs) = IsTrue (is_before c (key x)) × AllAfter c xs

  abbrev pub Rising : List X → Type 0
  Rising [] = Unit {0}
  Rising (x ∷ xs) = AllAfter (key x) xs × Rising xs

  abbrev pub Adjacent : List X → Type 0
  Adjacent xs = AllAdjacentBelow (λ x y. IsTrue (is_before (key x) (key y))) xs (length xs)

  pub after_later : (a b : Corner) (xs : List X) → IsTrue (is_before a b) → AllAfter b xs → AllAfter a xs
  after_later a b [] ab h = tt
  after_later a b (x ∷ xs) ab h = (before_trans a b (key x) ab h.0, after_later a b xs ab h.1)

  pub rising_from : (xs : List X) → Adjacent xs → Rising xs
  rising_from [] h = tt
  rising_from (x ∷ []) h = (tt, tt)
  rising_from (x ∷ (y ∷ ys)) h =
      let rest : Rising (y ∷ ys) = rising_from (y ∷ ys) (λ k d below. let later = h (suc k) d (omega arith) in simp unary_clauses (simp unary_clauses at later)) in
      let first : IsTrue (is_before (key x) (key y)) = h 0 x (omega arith) in
      ((first, after_later (key x) (key y) ys first rest.0), rest)

  pub adjacent_from : (xs : List X) → Rising xs → Adjacent xs
  adjacent_from [] h k d below = absurd (omega arith)
  adjacent_from (x ∷ []) h k d below = absurd (omega arith)
  adjacent_from (x ∷ (y ∷ ys)) h zero d below = h.0.0
  adjacent_from (x ∷ (y ∷ ys)) h (suc k) d below = let earlier = adjacent_from (y ∷ ys) h.1 k d (omega arith) in simp unary_clauses (simp unary_clauses at earlier)

  pub after-filter : (p : X → Bool) (c : Corner) (xs : List X) → AllAfter c xs → AllAfter c (filter p xs)
  after-filter p c [] h = tt
  after-filter p c (x ∷ xs) h = elim (p x) as (λ b. AllAfter c (cond b (x ∷ filter p xs) (filter p xs))) [
    | true ↦ (h.0, after-filter p c xs h.1)
    | false ↦ after-filter p c xs h.1
  ]

  pub rising-filter : (p : X → Bool) (xs : List X) → Rising xs → Rising (filter p xs)
  rising-filter p [] h = tt
  rising-filter p (x ∷ xs) h = elim (p x) as (λ b. Rising (cond b (x ∷ filter p xs) (filter p xs))) [
    | true ↦ (after-filter p (key x) xs h.0, rising-filter p xs h.1)
    | false ↦ rising-filter p xs h.1
  ]

  -- If all elements are after a corner, the one at each index is.
  pub after_at : (c : Corner) (xs : List X) (j : ℕ) (d : X) → AllAfter c xs → j < length xs → IsTrue (is_before c (key (get_or xs j d)))
  after_at c [] j d h below = absurd (omega arith)
  after_at c (x ∷ xs) zero d h below = h.0
  after_at c (x ∷ xs) (suc j) d h below = after_at c xs j d h.1 (omega arith)

  pub rises_at : (xs : List X) (i j : ℕ) (d : X) → Rising xs → i < j → j < length xs → IsTrue (is_before (key (get_or xs i d)) (key (get_or xs j d)))
  rises_at [] i j d h less below = absurd (omega arith)
  rises_at (x ∷ xs) i zero d h less below = absurd (omega arith)
  rises_at (x ∷ xs) zero (suc j) d h less below = after_at (key x) xs j d h.0 (omega arith)
  rises_at (x ∷ xs) (suc i) (suc j) d h less below = rises_at xs i j d h.1 (omega arith) (omega arith)

  -- A corner is at one index only.
  pub one_index : (xs : List X) (i j : ℕ) (d : X) → Rising xs → i < length xs → j < length xs → key (get_or xs i d) ≡ key (get_or xs j d) → i ≡ j
  one_index xs i j d h in_i in_j same = elim (cases_order i j) [
    | inl equal ↦ equal
    | inr other ↦ elim other [
      | inl less ↦ absurd (before_apart (key (get_or xs i d)) (key (get_or xs j d)) (rises_at xs i j d h less in_j) same)
      | inr more ↦ absurd (before_apart (key (get_or xs j d)) (key (get_or xs i d)) (rises_at xs j i d h more in_i) (sym same))
    ]
  ]
