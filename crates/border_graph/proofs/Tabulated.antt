-- A list of the values of a function.
use Rattle.border_graph.proofs.Prelude.{Bool, IsTrue, List, ℕ, [], ap, arith, get_or, length, list_any, list_any_at, refl, subst, suc, sym, zero, ◌+◌, ◌<◌, ◌∙◌, ◌∷◌, ◌≡◌}

-- the values of f at n numbers from k on
pub tabulated : {X : Type 0} → (ℕ → X) → ℕ → ℕ → List X
tabulated f k zero = []
tabulated f k (suc n) = f k ∷ tabulated f (suc k) n

pub length-tabulated : {X : Type 0} (f : ℕ → X) (k n : ℕ) → length (tabulated f k n) ≡ n
unfolding tabulated
length-tabulated f k zero = refl
length-tabulated f k (suc n) = ap suc (length-tabulated f (suc k) n)

at_from : {X : Type 0} (f : ℕ → X) (k n i : ℕ) (d : X) → i < n → get_or (tabulated f k n) i d ≡ f (k + i)
unfolding tabulated
at_from f k zero i d small = absurd (omega arith)
at_from f k (suc n) zero d small = let same : k ≡ k + 0 = omega arith in ap f same
at_from f k (suc n) (suc i) d small = let same : suc k + i ≡ k + suc i = omega arith in at_from f (suc k) n i d (omega arith) ∙ ap f same

pub at_number : {X : Type 0} (f : ℕ → X) (n i : ℕ) (d : X) → i < n → get_or (tabulated f 0 n) i d ≡ f i
at_number f n i d small = let same : 0 + i ≡ i = omega arith in at_from f 0 n i d small ∙ ap f same

-- each number below n is among the first n
pub among_numbers : (n : ℕ) (f : ℕ → Bool) (x : ℕ) → x < n → IsTrue (f x) → IsTrue (list_any f (tabulated (λ i. i) 0 n))
among_numbers n f x small on = list_any_at f (tabulated (λ i. i) 0 n) x 0 (subst (λ k. x < k) (sym (length-tabulated (λ i. i) 0 n)) small) (subst (λ y. IsTrue (f y)) (sym (at_number (λ i. i) n x 0 small)) on)
