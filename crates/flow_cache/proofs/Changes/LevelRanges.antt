-- How ranges grow as levels are added.
use Rattle.std.proofs.Common.{◌≡◌, ◌≢◌, ℕ, ◌+◌, ◌*◌, ◌<◌, ℤ, pos, ◌⊎◌, Bool, true, false, Option, Some, None, List, length, get_or, set, inl, inr, refl, sym, ap, ◌∙◌, subst, arith}
use Rattle.flow_cache.proofs.Prelude.{Decides-int_eq, LevelRange, cases_Bool, cases_eq, cases_lt, clamps, false≢true, get_or-set_other, get_or-set_same, if◌then◌else◌, int_eq, int_max, int_min, ints, le_or_above, length-set, one_column, one_row, void}
use Rattle.flow_cache.specs.LevelRanges.{block_of, range_at, HasEnds, HasLevelTo, with_level, AreRangesTo}
use Rattle.water.specs.Ranges.{IsIn}

-- a level in the range stays in it
stays_in : (o : Option LevelRange) (v w : ℤ) → IsIn o w → IsIn (with_level o v) w
stays_in None v w is = tt
stays_in (Some range) v w is = by (int_eq v void)
  where
    by : (b : Bool) → IsIn (if b then Some range else Some (record { least = int_min range.least v; greatest = int_max range.greatest v })) w
    by true = is
    by false = let low = is.0 in let high = is.1 in (omega (arith, ints, clamps), omega (arith, ints, clamps))

-- the added level is in the range
comes_in : (o : Option LevelRange) (v : ℤ) → v ≢ void → IsIn (with_level o v) v
comes_in None v some = tt
comes_in (Some range) v some = elim (cases_Bool (int_eq v void)) [
  | inl same ↦ absurd (some ((Decides-int_eq v void).0 same))
  | inr other ↦ subst (λ b. IsIn (if b then Some range else Some (record { least = int_min range.least v; greatest = int_max range.greatest v })) v) (sym other)
      (omega (arith, ints, clamps), omega (arith, ints, clamps))
]

known_still : (o : Option LevelRange) (v : ℤ) → (o ≡ None → ⊥) → with_level o v ≡ None → ⊥
known_still None v known none = known none
known_still (Some range) v known none = by (int_eq v void) none
  where
    by : (b : Bool) → (if b then Some range else Some (record { least = int_min range.least v; greatest = int_max range.greatest v })) ≡ None → ⊥
    by true none = absurd (cc)
    by false none = absurd (cc)

some_same : {A : Type 0} (a b : A) → ◌≡◌ {A = Option A} (Some a) (Some b) → a ≡ b
some_same a b e = cc

-- a range keeps its ends if `Has` implies `Has'`
pub ends_as : (r : LevelRange) (Has Has' : ℤ → Type 0) → ((w : ℤ) → Has w → Has' w) → HasEnds r Has → HasEnds r Has'
ends_as r Has Has' still ends = record {
  least = elim ends.least [ inl none ↦ inl none | inr has ↦ inr (still r.least has) ];
  greatest = elim ends.greatest [ inl none ↦ inl none | inr has ↦ inr (still r.greatest has) ];
}

-- the ends of a range after one more level
module _ (Has Has' : ℤ → Type 0) (still : (w : ℤ) → Has w → Has' w) where
  ends_with : (o : Option LevelRange) (v : ℤ) → (v ≢ void → Has' v) → ((r : LevelRange) → o ≡ Some r → HasEnds r Has) → (r : LevelRange) → with_level o v ≡ Some r → HasEnds r Has'
  ends_with None v here had r at = absurd (cc)
  ends_with (Some range) v here had r at = by (int_eq v void) refl at
    where
      kept : HasEnds range Has'
      kept = ends_as range Has Has' still (had range refl)

      wide : v ≢ void → HasEnds (record { least = int_min range.least v; greatest = int_max range.greatest v }) Has'
      wide some = record {
        least = elim (le_or_above range.least v) [
          | inl low ↦ let same : range.least ≡ int_min range.least v = omega (arith, ints, clamps) in subst (λ w. (w ≡ pos 32767) ⊎ Has' w) same kept.least
          | inr high ↦ let same : v ≡ int_min range.least v = omega (arith, ints, clamps) in inr (subst Has' same (here some))
        ];
        greatest = elim (le_or_above v range.greatest) [
          | inl low ↦ let same : range.greatest ≡ int_max range.greatest v = omega (arith, ints, clamps) in subst (λ w. (w ≡ void) ⊎ Has' w) same kept.greatest
          | inr high ↦ let same : v ≡ int_max range.greatest v = omega (arith, ints, clamps) in inr (subst Has' same (here some))
        ];
      }

      by : (b : Bool) → int_eq v void ≡ b → (if b then Some range else Some (record { least = int_min range.least v; greatest = int_max range.greatest v })) ≡ Some r → HasEnds r Has'
      by true is at = subst (λ (q : LevelRange). HasEnds q Has') (some_same range r at) kept
      by false is at = subst (λ (q : LevelRange). HasEnds q Has') (some_same (record { least = int_min range.least v; greatest = int_max range.greatest v }) r at)
          (wide (λ none. false≢true (sym is ∙ (Decides-int_eq v void).1 none)))

module _ (width i j : ℕ) (levels : List ℤ) (ranges : List (Option LevelRange)) (small : j < width) (block : block_of i j < length ranges) (so : AreRangesTo width (i * width + j) levels ranges) where
  abbrev b : ℕ
  b = block_of i j

  abbrev v : ℤ
  v = get_or levels (i * width + j) void

  abbrev new : List (Option LevelRange)
  new = set ranges b (with_level (range_at ranges b) v)

  -- the ranges are right for one more place
  pub one_more : AreRangesTo width (i * width + j + 1) levels new
  one_more = record {
    known = λ a below. elim (cases_eq a b) [
      | inl here ↦ λ none. known_still (range_at ranges b) v (so.known b block) (sym (get_or-set_same ranges b (with_level (range_at ranges b) v) None block) ∙ ap (range_at new) (sym here) ∙ none)
      | inr other ↦ λ none. so.known a (subst (λ k. a < k) (length-set ranges b (with_level (range_at ranges b) v)) below) (sym (get_or-set_other ranges b a (with_level (range_at ranges b) v) None other) ∙ none)
    ];
    within = λ h k inside early some. elim (cases_eq (block_of h k) b) [
      | inl here ↦
          subst (λ o. IsIn o (get_or levels (h * width + k) void)) (sym (ap (range_at new) here ∙ get_or-set_same ranges b (with_level (range_at ranges b) v) None block))
          (elim (cases_lt (h * width + k) (i * width + j)) [
            | inl before ↦ stays_in (range_at ranges b) v (get_or levels (h * width + k) void) (subst (λ a. IsIn (range_at ranges a) (get_or levels (h * width + k) void)) here (so.within h k inside before some))
            | inr after ↦
                let same : h * width + k ≡ i * width + j = omega (arith, early, after) in
                subst (λ e. IsIn (with_level (range_at ranges b) v) (get_or levels e void)) (sym same) (comes_in (range_at ranges b) v (subst (λ e. get_or levels e void ≢ void) same some))
          ])
      | inr other ↦
          subst (λ o. IsIn o (get_or levels (h * width + k) void)) (sym (get_or-set_other ranges b (block_of h k) (with_level (range_at ranges b) v) None other))
          (elim (cases_lt (h * width + k) (i * width + j)) [
            | inl before ↦ so.within h k inside before some
            | inr after ↦
                let same : h * width + k ≡ i * width + j = omega (arith, early, after) in
                absurd (other (ap (λ r. block_of r k) (one_row width h k i j inside small same) ∙ ap (block_of i) (one_column width h k i j inside small same)))
          ])
    ];
    ends = λ a range at. elim (cases_eq a b) [
      | inl here ↦
          ends_with (HasLevelTo width (i * width + j) levels a) (HasLevelTo width (i * width + j + 1) levels a) (longer a) (range_at ranges b) v
          (λ some. (i, j, small, omega arith, sym here, some, refl))
          (λ r known. so.ends a r (ap (range_at ranges) here ∙ known)) range (sym (get_or-set_same ranges b (with_level (range_at ranges b) v) None block) ∙ ap (range_at new) (sym here) ∙ at)
      | inr other ↦
          ends_as range (HasLevelTo width (i * width + j) levels a) (HasLevelTo width (i * width + j + 1) levels a) (longer a)
          (so.ends a range (sym (get_or-set_other ranges b a (with_level (range_at ranges b) v) None other) ∙ at))
    ];
  }
    where
      longer : (a : ℕ) (w : ℤ) → HasLevelTo width (i * width + j) levels a w → HasLevelTo width (i * width + j + 1) levels a w
      longer a w (h, k, inside, below, block, some, at) = (h, k, inside, omega (arith, below), block, some, at)
