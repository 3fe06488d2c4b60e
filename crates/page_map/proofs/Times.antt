-- How often joined lists, or lists compared index by index, contain a number.
use Rattle.page_map.proofs.Prelude.{All, Contains, List, ℕ, [], ap, arith, cases_eq, cond, differing, drop, eq-eqb, eqb, get_or, inl, inr, length, ne_eqb, refl, slice_set, subst, suc, sym, times, zero, ◌++◌, ◌+◌, ◌<◌, ◌∙◌, ◌∷◌, ◌≡◌, ◌≢◌, ◌≤◌}

abbrev nil : List ℕ
nil = []

-- 1 if the numbers are equal, else 0
abbrev pub one : ℕ → ℕ → ℕ
one p q = cond (eqb p q) 1 0

pub one-self : (p : ℕ) → one p p ≡ 1
one-self p = rw (eq-eqb p p refl) refl

pub one-other : (p q : ℕ) → p ≢ q → one p q ≡ 0
one-other p q other = rw (ne_eqb p q other) refl

pub times-append : (p : ℕ) (xs ys : List ℕ) → times p (xs ++ ys) ≡ times p xs + times p ys
times-append p [] ys = omega arith
times-append p (x ∷ xs) ys = let rest = times-append p xs ys in omega arith

pub differing-nil : (xs : List ℕ) → differing xs [] ≡ xs
differing-nil [] = refl
differing-nil (x ∷ xs) = refl

pub differing-self : (xs : List ℕ) → differing xs xs ≡ []
differing-self [] = refl
differing-self (x ∷ xs) = rw (eq-eqb x x refl) (differing-self xs)

-- The pages of list a and those that only b has are the pages of b and those that only a has.
pub differing-swap : (p : ℕ) (xs ys : List ℕ) → times p xs + times p (differing ys xs) ≡ times p ys + times p (differing xs ys)
differing-swap p [] [] = refl
differing-swap p [] (y ∷ ys) = omega arith
differing-swap p (x ∷ xs) [] = omega arith
differing-swap p (x ∷ xs) (y ∷ ys) = elim (cases_eq x y) [
  | inl same ↦
      let rest = differing-swap p xs ys in
      let alike : one p x ≡ one p y = ap (one p) same in
      rw (eq-eqb x y same, eq-eqb y x (sym same)) (omega arith)
  | inr other ↦
      let rest = differing-swap p xs ys in
      rw (ne_eqb x y other, ne_eqb y x (λ e. other (sym e))) (omega arith)
]

pub length-differing : (xs ys : List ℕ) → length (differing xs ys) ≤ length xs
length-differing [] ys = omega arith
length-differing (x ∷ xs) [] = omega arith
length-differing (x ∷ xs) (y ∷ ys) = elim (cases_eq x y) [
  | inl same ↦ rw (eq-eqb x y same) (let rest = length-differing xs ys in omega arith)
  | inr other ↦ rw (ne_eqb x y other) (let rest = length-differing xs ys in omega arith)
]

-- If the lists have no number in common, all of the first differ.
pub differing-apart : (xs ys : List ℕ) → ((p : ℕ) → times p xs + times p ys ≤ 1) → differing xs ys ≡ xs
differing-apart [] ys apart = refl
differing-apart (x ∷ xs) [] apart = refl
differing-apart (x ∷ xs) (y ∷ ys) apart = elim (cases_eq x y) [
  | inl same ↦
      let here : times x (x ∷ xs) + times x (y ∷ ys) ≤ 1 = apart x in
      let one_x : one x x ≡ 1 = one-self x in
      let one_y : one x y ≡ 1 = ap (one x) (sym same) ∙ one-self x in
      absurd (omega arith)
  | inr other ↦ rw (ne_eqb x y other) (ap (λ l. x ∷ l) (differing-apart xs ys (λ p. let both : times p (x ∷ xs) + times p (y ∷ ys) ≤ 1 = apart p in omega arith)))
]

-- A page that both lists have at an index is replaced in one list.
pub differing-set : (p : ℕ) (xs ys : List ℕ) (i x : ℕ) → i < length xs → i < length ys → get_or xs i 0 ≡ get_or ys i 0 → x ≢ get_or ys i 0
    → times p (differing (slice_set xs i x) ys) ≡ times p (differing xs ys) + one p x
differing-set p [] ys i x below within same other = absurd (omega arith)
differing-set p (a ∷ xs) [] i x below within same other = absurd (omega arith)
differing-set p (a ∷ xs) (b ∷ ys) zero x below within same other = rw (ne_eqb x b other, eq-eqb a b same) (omega arith)
differing-set p (a ∷ xs) (b ∷ ys) (suc i) x below within same other = elim (cases_eq a b) [
  | inl alike ↦ rw (eq-eqb a b alike) (differing-set p xs ys i x (omega arith) (omega arith) same other)
  | inr apart ↦ rw (ne_eqb a b apart) (let rest = differing-set p xs ys i x (omega arith) (omega arith) same other in omega arith)
]

pub length-differing-set : (xs ys : List ℕ) (i x : ℕ) → i < length xs → i < length ys → get_or xs i 0 ≡ get_or ys i 0 → x ≢ get_or ys i 0
    → length (differing (slice_set xs i x) ys) ≡ length (differing xs ys) + 1
length-differing-set [] ys i x below within same other = absurd (omega arith)
length-differing-set (a ∷ xs) [] i x below within same other = absurd (omega arith)
length-differing-set (a ∷ xs) (b ∷ ys) zero x below within same other = rw (ne_eqb x b other, eq-eqb a b same) (omega arith)
length-differing-set (a ∷ xs) (b ∷ ys) (suc i) x below within same other = elim (cases_eq a b) [
  | inl alike ↦ rw (eq-eqb a b alike) (length-differing-set xs ys i x (omega arith) (omega arith) same other)
  | inr apart ↦ rw (ne_eqb a b apart) (let rest = length-differing-set xs ys i x (omega arith) (omega arith) same other in omega arith)
]

-- If the lists have the same number at an index, not all differ.
pub differing-less : (xs ys : List ℕ) (i : ℕ) → i < length xs → i < length ys → get_or xs i 0 ≡ get_or ys i 0 → length (differing xs ys) < length xs
differing-less [] ys i below within same = absurd (omega arith)
differing-less (a ∷ xs) [] i below within same = absurd (omega arith)
differing-less (a ∷ xs) (b ∷ ys) zero below within same = rw (eq-eqb a b same) (let rest = length-differing xs ys in omega arith)
differing-less (a ∷ xs) (b ∷ ys) (suc i) below within same =
    let rest = differing-less xs ys i (omega arith) (omega arith) same in
    elim (cases_eq a b) [
      | inl alike ↦ rw (eq-eqb a b alike) (omega arith)
      | inr apart ↦ rw (ne_eqb a b apart) (omega arith)
    ]

-- The numbers that differ are numbers of the list.
pub differing-le : (p : ℕ) (xs ys : List ℕ) → times p (differing xs ys) ≤ times p xs
differing-le p [] ys = omega arith
differing-le p (x ∷ xs) [] = omega arith
differing-le p (x ∷ xs) (y ∷ ys) =
    let rest = differing-le p xs ys in
    elim (cases_eq x y) [
      | inl same ↦ rw (eq-eqb x y same) (omega arith)
      | inr other ↦ rw (ne_eqb x y other) (omega arith)
    ]

-- A number at an index where the other list has another number is one of those that differ.
pub differing-has : (xs ys : List ℕ) (i : ℕ) → i < length xs → (i < length ys → get_or xs i 0 ≢ get_or ys i 0) → 1 ≤ times (get_or xs i 0) (differing xs ys)
differing-has [] ys i below apart = absurd (omega arith)
differing-has (a ∷ xs) [] zero below apart = let here = one-self a in omega arith
differing-has (a ∷ xs) [] (suc i) below apart =
    let rest : 1 ≤ times (get_or xs i 0) (differing xs []) = differing-has xs [] i (omega arith) (λ none. absurd (omega arith)) in
    let whole = differing-nil xs in
    let rest' : 1 ≤ times (get_or xs i 0) xs = subst (λ l. 1 ≤ times (get_or xs i 0) l) whole rest in
    omega arith
differing-has (a ∷ xs) (b ∷ ys) zero below apart = rw (ne_eqb a b (apart (omega arith))) (let here = one-self a in omega arith)
differing-has (a ∷ xs) (b ∷ ys) (suc i) below apart =
    let rest = differing-has xs ys i (omega arith) (λ within. apart (omega arith)) in
    elim (cases_eq a b) [
      | inl alike ↦ rw (eq-eqb a b alike) rest
      | inr other ↦ rw (ne_eqb a b other) (omega arith)
    ]

-- one index further: the lists have the same number there, or not
pub differing_same : (p : ℕ) (xs ys : List ℕ) (i : ℕ) → i < length xs → i < length ys → get_or xs i 0 ≡ get_or ys i 0
    → times p (differing (drop i xs) (drop i ys)) ≡ times p (differing (drop (suc i) xs) (drop (suc i) ys))
differing_same p [] ys i below within same = absurd (omega arith)
differing_same p (x ∷ xs) [] i below within same = absurd (omega arith)
differing_same p (x ∷ xs) (y ∷ ys) zero below within same = rw (eq-eqb x y same) refl
differing_same p (x ∷ xs) (y ∷ ys) (suc i) below within same = differing_same p xs ys i (omega arith) (omega arith) same

pub differing_more : (p : ℕ) (xs ys : List ℕ) (i : ℕ) → i < length xs → (i < length ys → get_or xs i 0 ≢ get_or ys i 0)
    → times p (differing (drop i xs) (drop i ys)) ≡ one p (get_or xs i 0) + times p (differing (drop (suc i) xs) (drop (suc i) ys))
differing_more p [] ys i below apart = absurd (omega arith)
differing_more p (x ∷ xs) [] zero below apart = ap (λ l. one p x + times p l) (sym (differing-nil xs))
differing_more p (x ∷ xs) [] (suc i) below apart = by (drop-nil i) (differing_more p xs [] i (omega arith) (λ none. absurd (omega arith)))
  where
    drop-nil : (k : ℕ) → drop k (nil) ≡ nil
    drop-nil zero = refl
    drop-nil (suc k) = refl

    by : drop i nil ≡ nil
        → times p (differing (drop i xs) (drop i [])) ≡ one p (get_or xs i 0) + times p (differing (drop (suc i) xs) (drop (suc i) []))
        → times p (differing (drop i xs) []) ≡ one p (get_or xs i 0) + times p (differing (drop (suc i) xs) [])
    by none h = subst (λ (l : List ℕ). times p (differing (drop i xs) l) ≡ one p (get_or xs i 0) + times p (differing (drop (suc i) xs) [])) none h
differing_more p (x ∷ xs) (y ∷ ys) zero below apart = rw (ne_eqb x y (apart (omega arith))) refl
differing_more p (x ∷ xs) (y ∷ ys) (suc i) below apart = differing_more p xs ys i (omega arith) (λ within. apart (omega arith))

-- ---- numbers in lists
pub has_at : (xs : List ℕ) (i d : ℕ) → i < length xs → 1 ≤ times (get_or xs i d) xs
has_at [] i d below = absurd (omega arith)
has_at (x ∷ xs) zero d below = omega (arith, one-self x)
has_at (x ∷ xs) (suc i) d below = let rest = has_at xs i d (omega arith) in omega arith

pub times_of_member : (xs : List ℕ) (p : ℕ) → Contains xs p → 1 ≤ times p xs
times_of_member xs p (i, below, here) = let P : ℕ → Type 0 = λ q. 1 ≤ times q xs in subst P here (has_at xs i p below)

pub all_numbers : (P : ℕ → Type 0) (xs : List ℕ) → ((p : ℕ) → 1 ≤ times p xs → P p) → All P xs
all_numbers P xs each i d below = each (get_or xs i d) (has_at xs i d below)

pub empty_of_times : (xs : List ℕ) → ((p : ℕ) → times p xs ≡ 0) → xs ≡ []
empty_of_times [] none = refl
empty_of_times (x ∷ xs) none = let here : one x x + times x xs ≡ 0 = none x in absurd (omega (arith, here, one-self x))

pub member_of_times : (xs : List ℕ) (p : ℕ) → 1 ≤ times p xs → Contains xs p
member_of_times [] p some = absurd (omega arith)
member_of_times (x ∷ xs) p some = elim (cases_eq p x) [
  | inl same ↦ (0, omega arith, sym same)
  | inr other ↦ let none = one-other p x other in let rest = member_of_times xs p (omega arith) in (suc rest.0, omega arith, rest.2)
]
