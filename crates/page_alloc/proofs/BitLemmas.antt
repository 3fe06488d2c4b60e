-- What a write to one word does to the bits, and where a word that is not zero has one.
use Rattle.std.proofs.Common.{◌≡◌, ◌≢◌, ℕ, ◌+◌, ◌*◌, ◌-◌, ◌/◌, ◌%◌, ◌^◌, ◌<◌, ◌≤◌, List, length, get_or, true, false, eqb, inl, inr, sym, ap, ◌∙◌, arith, w64}
use Rattle.std.specs.Prelude.{bit_and, bit_or, not, ◌&&◌, ◌||◌}
use Rattle.std.proofs.Math.ListN.{set, replicate}
use Rattle.std.proofs.lemmas.List.{get_or-set_same, get_or-set_other, get_or_past, get_or-replicate}
use Rattle.std.proofs.lemmas.Bool.{cases_eq, cases_lt, eq-eqb, ne_eqb}
use Rattle.std.proofs.lemmas.Nat.Bits.{bit_at-zero, shr_and_one, bit_at_set_same, bit_at_set_other, bit_at_clear_same, bit_at_clear_other, bit_at-trailing_zeros, bit_at_ones}
use Rattle.std.specs.Int.{bit_at, bit_not, trailing_zeros}
use Rattle.page_alloc.specs.Bits.{has_bit}

-- the test of a bit as the code makes it
pub has_bit_tested : (words : List ℕ) (bit : ℕ) → eqb (bit_and (get_or words (bit / 64) 0 / 2 ^ (bit % 64)) 1) 1 ≡ has_bit words bit
unfolding has_bit
has_bit_tested words bit = ap (λ x. eqb x 1) (shr_and_one (get_or words (bit / 64) 0) (bit % 64))

-- a bit of the written word, and a bit of another word
module _ (words : List ℕ) (word value : ℕ) (inside : word < length words) (bit : ℕ) where
  has_bit-written : bit / 64 ≡ word → has_bit (set words word value) bit ≡ eqb (bit_at value (bit % 64)) 1
  unfolding has_bit
  has_bit-written same =
      ap (λ w. eqb (bit_at (get_or (set words word value) w 0) (bit % 64)) 1) same
      ∙ ap (λ x. eqb (bit_at x (bit % 64)) 1) (get_or-set_same words word value 0 inside)

  has_bit-kept : bit / 64 ≢ word → has_bit (set words word value) bit ≡ has_bit words bit
  unfolding has_bit
  has_bit-kept other = ap (λ x. eqb (bit_at x (bit % 64)) 1) (get_or-set_other words word (bit / 64) value 0 other)

-- Two bits at the same place of the same word are the same bit.
same_bit : (a b : ℕ) → a / 64 ≡ b / 64 → a % 64 ≡ b % 64 → a ≡ b
same_bit a b word place = omega arith

module _ (words : List ℕ) (bit : ℕ) (inside : bit / 64 < length words) where
  pub has_bit-set : (other : ℕ) → has_bit (set words (bit / 64) (bit_or (get_or words (bit / 64) 0) (1 * 2 ^ (bit % 64) % 2 ^ 64))) other ≡ (eqb other bit || has_bit words other)
  unfolding has_bit
  has_bit-set other =
      let old : ℕ = get_or words (bit / 64) 0 in
      let place : bit % 64 < 64 = omega arith in
      let value : ℕ = bit_or old (1 * 2 ^ (bit % 64) % 2 ^ 64) in
      elim (cases_eq other bit) [
        | inl same ↦
            has_bit-written words (bit / 64) value inside other (ap (λ x. x / 64) same)
            ∙ ap (λ x. eqb (bit_at value (x % 64)) 1) same
            ∙ ap (λ x. eqb x 1) (bit_at_set_same w64 old (bit % 64) place)
            ∙ sym (ap (λ b. b || has_bit words other) (eq-eqb other bit same))
        | inr differ ↦
            let told : eqb other bit ≡ false = ne_eqb other bit differ in
            elim (cases_eq (other / 64) (bit / 64)) [
              | inl word ↦
                  has_bit-written words (bit / 64) value inside other word
                  ∙ ap (λ x. eqb x 1) (bit_at_set_other w64 old (bit % 64) place (other % 64) (λ e. differ (same_bit other bit word e)))
                  ∙ ap (λ w. eqb (bit_at (get_or words w 0) (other % 64)) 1) (sym word)
                  ∙ sym (ap (λ b. b || has_bit words other) told)
              | inr word ↦
                  has_bit-kept words (bit / 64) value inside other word
                  ∙ sym (ap (λ b. b || has_bit words other) told)
            ]
      ]

  pub has_bit-cleared : (other : ℕ) → has_bit (set words (bit / 64) (bit_and (get_or words (bit / 64) 0) (bit_not w64 (1 * 2 ^ (bit % 64) % 2 ^ 64)))) other ≡ (not (eqb other bit) && has_bit words other)
  unfolding has_bit
  has_bit-cleared other =
      let old : ℕ = get_or words (bit / 64) 0 in
      let place : bit % 64 < 64 = omega arith in
      let value : ℕ = bit_and old (bit_not w64 (1 * 2 ^ (bit % 64) % 2 ^ 64)) in
      elim (cases_eq other bit) [
        | inl same ↦
            has_bit-written words (bit / 64) value inside other (ap (λ x. x / 64) same)
            ∙ ap (λ x. eqb (bit_at value (x % 64)) 1) same
            ∙ ap (λ x. eqb x 1) (bit_at_clear_same w64 old (bit % 64) place)
            ∙ sym (ap (λ b. not b && has_bit words other) (eq-eqb other bit same))
        | inr differ ↦
            let told : eqb other bit ≡ false = ne_eqb other bit differ in
            let below : other % 64 < 64 = omega arith in
            elim (cases_eq (other / 64) (bit / 64)) [
              | inl word ↦
                  has_bit-written words (bit / 64) value inside other word
                  ∙ ap (λ x. eqb x 1) (bit_at_clear_other w64 old (bit % 64) place (other % 64) below (λ e. differ (same_bit other bit word e)))
                  ∙ ap (λ w. eqb (bit_at (get_or words w 0) (other % 64)) 1) (sym word)
                  ∙ sym (ap (λ b. not b && has_bit words other) told)
              | inr word ↦
                  has_bit-kept words (bit / 64) value inside other word
                  ∙ sym (ap (λ b. not b && has_bit words other) told)
            ]
      ]

-- the lowest bit of a word that is not zero
pub has_bit-lowest : (words : List ℕ) (word : ℕ) → get_or words word 0 < 2 ^ 64 → get_or words word 0 ≢ 0
    → has_bit words (64 * word + trailing_zeros w64 (get_or words word 0)) ≡ true
unfolding has_bit
has_bit-lowest words word fits some =
    let value : ℕ = get_or words word 0 in
    let lowest = bit_at-trailing_zeros w64 value (omega arith) fits in
    let place : ℕ = trailing_zeros w64 value in
    let at_word : (64 * word + place) / 64 ≡ word = omega (arith, lowest.0) in
    let at_place : (64 * word + place) % 64 ≡ place = omega (arith, lowest.0) in
    ap (λ w. eqb (bit_at (get_or words w 0) ((64 * word + place) % 64)) 1) at_word
    ∙ ap (λ b. eqb (bit_at value b) 1) at_place
    ∙ ap (λ x. eqb x 1) lowest.1

-- a word that is zero has no bit set
pub has_bit-zero : (words : List ℕ) (bit : ℕ) → get_or words (bit / 64) 0 ≡ 0 → has_bit words bit ≡ false
unfolding has_bit
has_bit-zero words bit zero = ap (λ x. eqb (bit_at x (bit % 64)) 1) zero ∙ ap (λ x. eqb x 1) (bit_at-zero (bit % 64))

-- words that are all zero have no bit set
pub has_bit-none : (words : List ℕ) → ((word : ℕ) → word < length words → get_or words word 0 ≡ 0) → (bit : ℕ) → has_bit words bit ≡ false
has_bit-none words zeros bit =
    elim (cases_lt (bit / 64) (length words)) [
      | inl inside ↦ has_bit-zero words bit (zeros (bit / 64) inside)
      | inr outside ↦ has_bit-zero words bit (get_or_past words (bit / 64) 0 outside)
    ]

-- past the last word no bit is set
pub has_bit-past : (words : List ℕ) (bit : ℕ) → 64 * length words ≤ bit → has_bit words bit ≡ false
has_bit-past words bit past = has_bit-zero words bit (get_or_past words (bit / 64) 0 (omega (arith, past)))

-- words that are all ones have every bit set
pub has_bit-ones : (count bit : ℕ) → bit < 64 * count → has_bit (replicate count (2 ^ 64 - 1)) bit ≡ true
unfolding has_bit
has_bit-ones count bit inside =
    ap (λ x. eqb (bit_at x (bit % 64)) 1) (get_or-replicate count (bit / 64) (2 ^ 64 - 1) 0 (omega (arith, inside)))
    ∙ ap (λ x. eqb x 1) (bit_at_ones 64 (bit % 64) (omega arith))
