-- Rim points and their numbers: each number below four times the side less one belongs to one rim point.
use Rattle.std.proofs.Common.{rules}
use Rattle.std.proofs.Common.{◌≡◌, ◌≢◌, ℕ, ◌+◌, ◌*◌, ◌-◌, ◌/◌, ◌%◌, ◌<◌, ◌≤◌, inl, inr, cond, IsTrue, ◌||◌, refl, sym, ap, ap₂, ◌∙◌, subst, arith, nat_eq, nat_lt}
use Rattle.std.proofs.lemmas.Bool.{cond-true, cond-false, eqb-true, ne_eqb, eq-eqb, or_cases, or_left, or_right, cases_lt, cases_eq, lt-ltb, le-ltb}
use Rattle.lattice.specs.Block.{is_rim, rim_number}
use Rattle.lattice.specs.RimPoints.{IsRimPoint, rim_index}
use Rattle.std.proofs.lemmas.Nat.{div-mul-add, mod-mul-add, mul-add-lt}
use Rattle.lattice.proofs.Samples.{row_below}

module _ (n e : ℕ) where
  top_number : e / n ≡ 0 → rim_number n e ≡ e
  top_number first = cond-true (nat_eq (e / n) 0) _ _ (eq-eqb (e / n) 0 first)

  bottom_number : e / n ≢ 0 → e / n + 1 ≡ n → rim_number n e ≡ n + 2 * (n - 2) + e % n
  bottom_number later end = cond-false (nat_eq (e / n) 0) _ _ (ne_eqb (e / n) 0 later) ∙ cond-true (nat_eq (e / n + 1) n) _ _ (eq-eqb (e / n + 1) n end)

  west_number : e / n ≢ 0 → e / n + 1 ≢ n → e % n ≡ 0 → rim_number n e ≡ n + 2 * (e / n - 1)
  west_number later more west = search rules

  east_number : e / n ≢ 0 → e / n + 1 ≢ n → e % n ≢ 0 → rim_number n e ≡ n + 2 * (e / n - 1) + 1
  east_number later more east = search rules

-- the row or column of the rim in which the point with a number is
pub data Lies (n row column number : ℕ) : Type 0 where
  Top : row ≡ 0 → number ≡ column → Lies n row column number
  Bottom : row ≢ 0 → row + 1 ≡ n → number ≡ n + 2 * (n - 2) + column → Lies n row column number
  West : row ≢ 0 → row + 1 < n → column ≡ 0 → number ≡ n + 2 * (row - 1) → Lies n row column number
  East : row ≢ 0 → row + 1 < n → column + 1 ≡ n → number ≡ n + 2 * (row - 1) + 1 → Lies n row column number

lies : (n e : ℕ) → 3 ≤ n → e < n * n → IsTrue (is_rim n e) → Lies n (e / n) (e % n) (rim_number n e)
lies n e side small rim =
    let row : e / n < n = row_below n e (omega arith) small in
    let cell : e ≡ (e / n) * n + e % n = omega arith in
    elim (cases_eq (e / n) 0) [
      | inl first ↦ Top first (top_number n e first ∙ (cell ∙ (ap (λ r. r * n + e % n) first ∙ omega arith)))
      | inr later ↦ elim (cases_eq (e / n + 1) n) [
        | inl end ↦ Bottom later end (bottom_number n e later end)
        | inr more ↦ elim (cases_eq (e % n) 0) [
          | inl west ↦ West later (omega arith) west (west_number n e later more west)
          | inr other ↦ East later (omega arith) (last_column later more other) (east_number n e later more other)
        ]
      ]
    ]
  where
    last_column : e / n ≢ 0 → e / n + 1 ≢ n → e % n ≢ 0 → e % n + 1 ≡ n
    last_column later more other = elim (or_cases (nat_eq (e / n) 0 || nat_eq (e / n + 1) n || nat_eq (e % n) 0) (nat_eq (e % n + 1) n) rim) [
      | inr east ↦ eqb-true (e % n + 1) n east
      | inl rest ↦ elim (or_cases (nat_eq (e / n) 0 || nat_eq (e / n + 1) n) (nat_eq (e % n) 0) rest) [
        | inr west ↦ absurd (other (eqb-true (e % n) 0 west))
        | inl rows ↦ elim (or_cases (nat_eq (e / n) 0) (nat_eq (e / n + 1) n) rows) [
          | inl first ↦ absurd (later (eqb-true (e / n) 0 first))
          | inr end ↦ absurd (more (eqb-true (e / n + 1) n end))
        ]
      ]
    ]

same_cell : (n i j i' j' k : ℕ) → 3 ≤ n → j < n → j' < n → Lies n i j k → Lies n i' j' k → (i ≡ i') × (j ≡ j')
same_cell n i j i' j' k side c c' (Top a b) (Top a' b') = (omega arith, omega arith)
same_cell n i j i' j' k side c c' (Top a b) (Bottom a' b' d') = absurd (omega arith)
same_cell n i j i' j' k side c c' (Top a b) (West a' b' d' f') = absurd (omega arith)
same_cell n i j i' j' k side c c' (Top a b) (East a' b' d' f') = absurd (omega arith)
same_cell n i j i' j' k side c c' (Bottom a b d) (Top a' b') = absurd (omega arith)
same_cell n i j i' j' k side c c' (Bottom a b d) (Bottom a' b' d') = (omega arith, omega arith)
same_cell n i j i' j' k side c c' (Bottom a b d) (West a' b' d' f') = absurd (omega arith)
same_cell n i j i' j' k side c c' (Bottom a b d) (East a' b' d' f') = absurd (omega arith)
same_cell n i j i' j' k side c c' (West a b d f) (Top a' b') = absurd (omega arith)
same_cell n i j i' j' k side c c' (West a b d f) (Bottom a' b' d') = absurd (omega arith)
same_cell n i j i' j' k side c c' (West a b d f) (West a' b' d' f') = (omega arith, omega arith)
same_cell n i j i' j' k side c c' (West a b d f) (East a' b' d' f') = absurd (omega arith)
same_cell n i j i' j' k side c c' (East a b d f) (Top a' b') = absurd (omega arith)
same_cell n i j i' j' k side c c' (East a b d f) (Bottom a' b' d') = absurd (omega arith)
same_cell n i j i' j' k side c c' (East a b d f) (West a' b' d' f') = absurd (omega arith)
same_cell n i j i' j' k side c c' (East a b d f) (East a' b' d' f') = (omega arith, omega arith)

-- At most one rim point has a given number.
pub one_rim_point : (n e f : ℕ) → 3 ≤ n → e < n * n → f < n * n → IsTrue (is_rim n e) → IsTrue (is_rim n f) → rim_number n e ≡ rim_number n f → e ≡ f
one_rim_point n e f side small small' rim rim' same =
    let column : e % n < n = omega arith in
    let column' : f % n < n = omega arith in
    let there : Lies n (f / n) (f % n) (rim_number n e) = subst (Lies n (f / n) (f % n)) (sym same) (lies n f side small' rim') in
    let at = same_cell n (e / n) (e % n) (f / n) (f % n) (rim_number n e) side column column' (lies n e side small rim) there in
    let here : e ≡ (e / n) * n + e % n = omega arith in
    let there : f ≡ (f / n) * n + f % n = omega arith in
    here ∙ (ap₂ (λ i j. i * n + j) at.0 at.1 ∙ sym there)

pub at_cell : (n i j k e : ℕ) → 3 ≤ n → i < n → j < n → e ≡ i * n + j → Lies n i j k → IsRimPoint n k e
at_cell n i j k e side row column at there =
    let in_row : e / n ≡ i = ap (λ v. v / n) at ∙ div-mul-add i n j column in
    let in_column : e % n ≡ j = ap (λ v. v % n) at ∙ mod-mul-add i n j column in
    rest in_row in_column there
  where
    inside : e < n * n
    inside = subst (λ v. v < n * n) (sym at) (mul-add-lt i n j n row column)

    rest : e / n ≡ i → e % n ≡ j → Lies n i j k → IsRimPoint n k e
    rest in_row in_column (Top a b) = record {
      small = inside;
      rim = or_left (nat_eq (e / n) 0 || nat_eq (e / n + 1) n || nat_eq (e % n) 0) (nat_eq (e % n + 1) n) (or_left (nat_eq (e / n) 0 || nat_eq (e / n + 1) n) (nat_eq (e % n) 0) (or_left (nat_eq (e / n) 0) (nat_eq (e / n + 1) n) (eq-eqb (e / n) 0 (in_row ∙ a))));
      number = top_number n e (in_row ∙ a) ∙ (at ∙ (ap (λ r. r * n + j) a ∙ omega arith));
    }
    rest in_row in_column (Bottom a b d) = record {
      small = inside;
      rim = or_left (nat_eq (e / n) 0 || nat_eq (e / n + 1) n || nat_eq (e % n) 0) (nat_eq (e % n + 1) n) (or_left (nat_eq (e / n) 0 || nat_eq (e / n + 1) n) (nat_eq (e % n) 0) (or_right (nat_eq (e / n) 0) (nat_eq (e / n + 1) n) (eq-eqb (e / n + 1) n (omega arith))));
      number = bottom_number n e (λ h. a (sym in_row ∙ h)) (omega arith) ∙ omega arith;
    }
    rest in_row in_column (West a b d f) = record {
      small = inside;
      rim = or_left (nat_eq (e / n) 0 || nat_eq (e / n + 1) n || nat_eq (e % n) 0) (nat_eq (e % n + 1) n) (or_right (nat_eq (e / n) 0 || nat_eq (e / n + 1) n) (nat_eq (e % n) 0) (eq-eqb (e % n) 0 (in_column ∙ d)));
      number = west_number n e (λ h. a (sym in_row ∙ h)) (λ h. absurd (omega arith)) (in_column ∙ d) ∙ omega arith;
    }
    rest in_row in_column (East a b d f) = record {
      small = inside;
      rim = or_right (nat_eq (e / n) 0 || nat_eq (e / n + 1) n || nat_eq (e % n) 0) (nat_eq (e % n + 1) n) (eq-eqb (e % n + 1) n (omega arith));
      number = east_number n e (λ h. a (sym in_row ∙ h)) (λ h. absurd (omega arith)) (λ h. absurd (omega arith)) ∙ omega arith;
    }

pub rim_index_is : (n k : ℕ) → 3 ≤ n → k < 4 * (n - 1) → IsRimPoint n k (rim_index n k)
rim_index_is n k side small = elim (cases_lt k n) [
  | inl top ↦ subst (IsRimPoint n k) (sym (cond-true (nat_lt k n) k _ (lt-ltb k n top))) (at_cell n 0 k k k side (omega arith) top (omega arith) (Top refl refl))
  | inr below ↦ subst (IsRimPoint n k) (sym (cond-false (nat_lt k n) k _ (le-ltb k n below))) (elim (cases_lt k (n + 2 * (n - 2))) [
    | inl sides ↦ subst (IsRimPoint n k) (sym (cond-true (nat_lt k (n + 2 * (n - 2))) _ _ (lt-ltb k (n + 2 * (n - 2)) sides))) (elim (cases_eq ((k - n) % 2) 0) [
      | inl west ↦
          subst (λ j. IsRimPoint n k (((k - n) / 2 + 1) * n + j)) (sym (cond-true (nat_eq ((k - n) % 2) 0) 0 (n - 1) (eq-eqb ((k - n) % 2) 0 west)))
          (at_cell n ((k - n) / 2 + 1) 0 k (((k - n) / 2 + 1) * n + 0) side (omega arith) (omega arith) refl (West (omega arith) (omega arith) refl (omega arith)))
      | inr east ↦
          subst (λ j. IsRimPoint n k (((k - n) / 2 + 1) * n + j)) (sym (cond-false (nat_eq ((k - n) % 2) 0) 0 (n - 1) (ne_eqb ((k - n) % 2) 0 east)))
          (at_cell n ((k - n) / 2 + 1) (n - 1) k (((k - n) / 2 + 1) * n + (n - 1)) side (omega arith) (omega arith) refl (East (omega arith) (omega arith) (omega arith) (omega arith)))
    ])
    | inr bottom ↦
        subst (IsRimPoint n k) (sym (cond-false (nat_lt k (n + 2 * (n - 2))) _ _ (le-ltb k (n + 2 * (n - 2)) bottom)))
        (at_cell n (n - 1) (k - (n + 2 * (n - 2))) k ((n - 1) * n + (k - (n + 2 * (n - 2)))) side (omega arith) (omega arith) refl (Bottom (omega arith) (omega arith) (omega arith)))
  ])
]

pub rim_point_of : (n k : ℕ) → 3 ≤ n → k < 4 * (n - 1) → (e : ℕ) × IsRimPoint n k e
rim_point_of n k side small = (rim_index n k, rim_index_is n k side small)

-- a rim point's number
pub number_below : (n k e : ℕ) → 3 ≤ n → IsRimPoint n k e → k < 4 * (n - 1)
number_below n k e side is = below (subst (Lies n (e / n) (e % n)) is.number (lies n e side is.small is.rim))
  where
    column : e % n < n
    column = omega arith

    row : e / n < n
    row = row_below n e (omega arith) is.small

    below : Lies n (e / n) (e % n) k → k < 4 * (n - 1)
    below (Top a b) = omega arith
    below (Bottom a b d) = omega arith
    below (West a b d f) = omega arith
    below (East a b d f) = omega arith

pub one_index : (n k e f : ℕ) → 3 ≤ n → IsRimPoint n k e → IsRimPoint n k f → e ≡ f
one_index n k e f side here there = one_rim_point n e f side here.small there.small here.rim there.rim (here.number ∙ sym there.number)

-- The index of a rim point's number is the point's index.
pub rim_index_of_number : (n e : ℕ) → 3 ≤ n → e < n * n → IsTrue (is_rim n e) → rim_index n (rim_number n e) ≡ e
rim_index_of_number n e side small rim =
    let here : IsRimPoint n (rim_number n e) e = record { small = small; rim = rim; number = refl } in
    one_index n (rim_number n e) (rim_index n (rim_number n e)) e side (rim_index_is n (rim_number n e) side (number_below n (rim_number n e) e side here)) here
