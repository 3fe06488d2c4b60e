-- How often a list of pages contains a page.
use Rattle.std.proofs.Common.{◌≡◌, ◌≢◌, ⊎_elim, ℕ, zero, suc, ◌+◌, ◌<◌, ◌≤◌, List, [], ◌∷◌, All, length, get_or, refl, sym, arith}
use Rattle.std.specs.List.{slice_set}
use Rattle.std.proofs.lemmas.Bool.{cases_lt}
use Rattle.page_map.proofs.Prelude.{All-cons, All-nil, nat_tests, times}
use Rattle.page_map.proofs.Times.{has_at, times-append}

pub times_here : (p x : ℕ) (xs : List ℕ) → p ≡ x → times p (x ∷ xs) ≡ 1 + times p xs
times_here p x xs e = grind (arith, nat_tests)

pub times_other : (p x : ℕ) (xs : List ℕ) → p ≢ x → times p (x ∷ xs) ≡ times p xs
times_other p x xs e = grind (arith, nat_tests)

-- a page that the list doesn't contain
pub apart_head : (p x : ℕ) (xs : List ℕ) → times p (x ∷ xs) ≡ 0 → x ≢ p
apart_head p x xs none e = let here = times_here p x xs (sym e) in omega (arith, here, none)

pub absent : (p : ℕ) (xs : List ℕ) → times p xs ≡ 0 → All (λ q. q ≢ p) xs
absent p [] none = All-nil (λ q. q ≢ p)
absent p (x ∷ xs) none = All-cons (λ q. q ≢ p) x xs (apart_head p x xs none) (absent p xs (omega (arith, none)))

-- a page that was put into the list
pub set_there : (p : ℕ) (xs : List ℕ) (i : ℕ) → i < length xs → 1 ≤ times p (slice_set xs i p)
set_there p [] i lt = absurd (omega arith)
set_there p (x ∷ xs) zero lt = let here = times_here p p xs refl in omega (arith, here)
set_there p (x ∷ xs) (suc i) lt = let rest = set_there p xs i (omega arith) in omega (arith, rest)

-- one page at two indices
twice : (xs : List ℕ) (k j : ℕ) → k < j → j < length xs → get_or xs k 0 ≡ get_or xs j 0 → 2 ≤ times (get_or xs j 0) xs
twice [] k j lt within same = absurd (omega arith)
twice (x ∷ xs) k zero lt within same = absurd (omega arith)
twice (x ∷ xs) zero (suc j) lt within same =
    let here = times_here (get_or xs j 0) x xs (sym same) in
    let there = has_at xs j 0 (omega arith) in
    omega (arith, here, there)
twice (x ∷ xs) (suc k) (suc j) lt within same =
    let rest = twice xs k j (omega arith) (omega arith) same in
    let split = times-append (get_or xs j 0) (x ∷ []) xs in
    omega (arith, rest, split)

-- Pages that a list contains at most once are at one index each.
pub once_apart : (xs : List ℕ) → ((p : ℕ) → times p xs ≤ 1) → (k j : ℕ) → k < length xs → j < length xs → k ≢ j → get_or xs k 0 ≢ get_or xs j 0
once_apart xs once k j in_k in_j apart same =
    ⊎_elim (λ (lt : k < j). let two = twice xs k j lt in_j same in let one = once (get_or xs j 0) in absurd (omega (arith, two, one)))
    (λ (ge : j ≤ k). let lt : j < k = omega (arith, ge, apart) in let two = twice xs j k lt in_k (sym same) in let one = once (get_or xs k 0) in absurd (omega (arith, two, one)))
    (cases_lt k j)
