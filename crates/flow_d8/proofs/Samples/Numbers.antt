-- Points and the numbers of their samples, tile after tile. No two points have the same number.
use Rattle.flow_d8.proofs.Prelude.{Corner, Holds, IsTrue, List, Point, Some, ℕ, [], and_from, and_parts, ap, arith, cases_Bool, cond-false, cond-true, div-mul-add, false, get_or, holds, index_of, inl, inr, is_corner, length, mod-mul-add, mul-le-mul_right, or_cases, or_left, or_right, point_of, refl, rows, slice_get, suc, sym, true, true≢false, ⊎_elim, ◌%◌, ◌*◌, ◌+◌, ◌/◌, ◌<◌, ◌∙◌, ◌∷◌, ◌≡◌, ◌≤◌}
use Rattle.lattice.proofs.Samples.{holds_is, index_of_below, point_of_index}
use Rattle.flow_d8.specs.Filled.{is_holder, is_held, number_of}

pub number-here : (n : ℕ) (c : Corner) (rest : List Corner) (p : Point) → is_holder n c p ≡ true → number_of n (c ∷ rest) p ≡ index_of n c p
unfolding number_of
number-here n c rest p on = cond-true (is_holder n c p) (index_of n c p) (n * n + number_of n rest p) on

pub number-later : (n : ℕ) (c : Corner) (rest : List Corner) (p : Point) → is_holder n c p ≡ false → number_of n (c ∷ rest) p ≡ n * n + number_of n rest p
unfolding number_of
number-later n c rest p off = cond-false (is_holder n c p) (index_of n c p) (n * n + number_of n rest p) off

pub number-none : (n : ℕ) (p : Point) → number_of n [] p ≡ 0
unfolding number_of
number-none n p = refl

pub held-later : (n : ℕ) (c : Corner) (rest : List Corner) (p : Point) → is_holder n c p ≡ false → IsTrue (is_held n (c ∷ rest) p) → IsTrue (is_held n rest p)
held-later n c rest p off held = ⊎_elim (λ on. absurd (true≢false (sym on ∙ off))) (λ later. later) (or_cases (is_holder n c p) (is_held n rest p) held)

one_more_tile : (k a : ℕ) → suc k * a ≡ a + k * a
one_more_tile k a = omega arith

-- the number, tile and index of a point that some tile holds
pub record Seat (n : ℕ) (corners : List Corner) (p : Point) : Type 0 where
  pub number : ℕ
  pub corner : Corner
  pub listed : slice_get corners number ≡ Some corner
  pub at : (d : Corner) → get_or corners number d ≡ corner
  pub in_range : number < length corners
  pub held : is_holder n corner p ≡ true
  pub numbered : number_of n corners p ≡ number * (n * n) + index_of n corner p

pub seat_of : (n : ℕ) (corners : List Corner) (p : Point) → IsTrue (is_held n corners p) → Seat n corners p
seat_of n [] p held = absurd (true≢false (sym held))
seat_of n (c ∷ rest) p held = elim (cases_Bool (is_holder n c p)) [
  | inl on ↦ record {
    number = 0;
    corner = c;
    listed = refl;
    at = λ d. refl;
    in_range = omega arith;
    held = on;
    numbered = number-here n c rest p on ∙ omega arith;
  }
  | inr off ↦
      let later = seat_of n rest p (held-later n c rest p off held) in
      record {
        number = suc later.number;
        corner = later.corner;
        listed = later.listed;
        at = λ d. later.at d;
        in_range = omega (arith, later.in_range);
        held = later.held;
        numbered = number-later n c rest p off ∙ ap (λ k. n * n + k) later.numbered ∙ omega arith;
      }
]

pub holder_holds : (n : ℕ) (c : Corner) (p : Point) → 3 ≤ n → is_holder n c p ≡ true → Holds n c p
holder_holds n c p side on = let both = and_parts (is_corner c) (holds n c p) on in (holds_is n c p side both.0).0 both.1

pub holds_holder : (n : ℕ) (c : Corner) (p : Point) → 3 ≤ n → Holds n c p → is_holder n c p ≡ true
holds_holder n c p side h = and_from (is_corner c) (holds n c p) h.corner ((holds_is n c p side h.corner).1 h)

pub index_small : (n : ℕ) (c : Corner) (p : Point) → 3 ≤ n → is_holder n c p ≡ true → index_of n c p < n * n
index_small n c p side on = index_of_below n c p (holder_holds n c p side on)

pub number_below : (n : ℕ) (corners : List Corner) (p : Point) → 3 ≤ n → IsTrue (is_held n corners p) → number_of n corners p < length corners * (n * n)
number_below n corners p side held =
    let seat = seat_of n corners p held in
    let small : index_of n seat.corner p < n * n = index_small n seat.corner p side seat.held in
    let number : suc seat.number * (n * n) ≤ length corners * (n * n) = mul-le-mul_right (n * n) (omega (arith, seat.in_range)) in
    omega (arith, seat.numbered, one_more_tile seat.number (n * n))

pub number_past : (n : ℕ) (corners : List Corner) (p : Point) → is_held n corners p ≡ false → number_of n corners p ≡ length corners * (n * n)
number_past n [] p out = number-none n p ∙ omega arith
number_past n (c ∷ rest) p out = elim (cases_Bool (is_holder n c p)) [
  | inl on ↦ absurd (true≢false (sym (or_left (is_holder n c p) (is_held n rest p) on) ∙ out))
  | inr off ↦ number-later n c rest p off ∙ ap (λ k. n * n + k) (number_past n rest p (none off)) ∙ omega arith
]
  where
    none : is_holder n c p ≡ false → is_held n rest p ≡ false
    none off = elim (cases_Bool (is_held n rest p)) [
      | inl on ↦ absurd (true≢false (sym (or_right (is_holder n c p) (is_held n rest p) on) ∙ out))
      | inr out' ↦ out'
    ]

-- points with the same number are equal
pub number_injective : (n : ℕ) (corners : List Corner) (p q : Point) → 3 ≤ n → IsTrue (is_held n corners p) → IsTrue (is_held n corners q)
    → number_of n corners p ≡ number_of n corners q → p ≡ q
number_injective n [] p q side hp hq same = absurd (true≢false (sym hp))
number_injective n (c ∷ rest) p q side hp hq same = elim (cases_Bool (is_holder n c p)) [
  | inl p_on ↦ elim (cases_Bool (is_holder n c q)) [
    | inl q_on ↦
        let one : index_of n c p ≡ index_of n c q = sym (number-here n c rest p p_on) ∙ same ∙ number-here n c rest q q_on in
        sym (point_of_index n c p (holder_holds n c p side p_on)) ∙ ap (point_of n c) one ∙ point_of_index n c q (holder_holds n c q side q_on)
    | inr q_off ↦ absurd (apart (index_of n c p) (number_of n rest q) (index_small n c p side p_on) (sym (number-here n c rest p p_on) ∙ same ∙ number-later n c rest q q_off))
  ]
  | inr p_off ↦ elim (cases_Bool (is_holder n c q)) [
    | inl q_on ↦ absurd (apart (index_of n c q) (number_of n rest p) (index_small n c q side q_on) (sym (number-here n c rest q q_on) ∙ sym same ∙ number-later n c rest p p_off))
    | inr q_off ↦ number_injective n rest p q side (held-later n c rest p p_off hp) (held-later n c rest q q_off hq)
        (less (number_of n rest p) (number_of n rest q) (sym (number-later n c rest p p_off) ∙ same ∙ number-later n c rest q q_off))
  ]
]
  where
    apart : (i k : ℕ) → i < n * n → i ≡ n * n + k → ⊥
    apart i k small e = omega arith

    less : (j k : ℕ) → n * n + j ≡ n * n + k → j ≡ k
    less j k e = omega arith

pub tile_below : (a count number : ℕ) → 0 < a → number < count * a → number / a < count
tile_below a count number some small = grind (arith, rows)

-- the point with this sample number
pub point_at_number : (n : ℕ) (corners : List Corner) (p : Point) (number : ℕ) (d : Corner) → 3 ≤ n → IsTrue (is_held n corners p) → number_of n corners p ≡ number
    → point_of n (get_or corners (number / (n * n)) d) (number % (n * n)) ≡ p
point_at_number n corners p number d side held same =
    let seat = seat_of n corners p held in
    let i = index_of n seat.corner p in
    let small : i < n * n = index_small n seat.corner p side seat.held in
    let is : number ≡ seat.number * (n * n) + i = sym same ∙ seat.numbered in
    let k_is : number / (n * n) ≡ seat.number = ap (λ v. v / (n * n)) is ∙ div-mul-add seat.number (n * n) i small in
    let i_is : number % (n * n) ≡ i = ap (λ v. v % (n * n)) is ∙ mod-mul-add seat.number (n * n) i small in
    ap (λ k. point_of n (get_or corners k d) (number % (n * n))) k_is
    ∙ ap (λ c. point_of n c (number % (n * n))) (seat.at d)
    ∙ ap (λ j. point_of n seat.corner j) i_is
    ∙ point_of_index n seat.corner p (holder_holds n seat.corner p side seat.held)
