-- The progress of loops over lists of pages.
use Rattle.std.proofs.Common.{◌≡◌, ◌≢◌, ℕ, zero, suc, ◌+◌, ◌<◌, ◌≤◌, ◌⊎◌, inl, inr, List, [], ◌∷◌, ◌++◌, length, drop, take, get_or, set, sym, ap, subst, ◌∙◌, arith, add-one}
use Rattle.std.specs.Prelude.{Result, Ok, Err, OnOk, IfErr}
use Rattle.std.proofs.lemmas.List.{take_more, take_more_set, take_all, drop_all}
use Rattle.page_map.proofs.Prelude.{Refusal, times}
use Rattle.lattice.specs.declared.refusal.Refusal.TheVariants.{Damaged, NoMemory}
use Rattle.page_map.specs.FreePages.{FreePages, free_times, page_times, differing, AreBalanced, AreTaken, AreGiven, AreInUse, IsUnmarked}
use Rattle.page_map.proofs.Times.{one, one-self, times-append, differing_same, differing_more}
use Rattle.page_map.proofs.FreeTimes.{balanced_as, taken-append}

-- Of the pages to be freed, those from an index on remain.
abbrev pub IsGivenTo : List ℕ → List ℕ → ℕ → FreePages → FreePages → Type 0
IsGivenTo pages others i old now = AreBalanced (differing pages others) (differing (drop i pages) (drop i others)) old now

module _ (pages others : List ℕ) (i : ℕ) (old now : FreePages) (so_far : IsGivenTo pages others i old now) (below : i < length pages) where
  pub given_same : i < length others → get_or others i 0 ≡ get_or pages i 0 → IsGivenTo pages others (i + 1) old now
  given_same within same = rw add-one (balanced_as so_far (λ p. omega (arith, differing_same p pages others i below within (sym same))))

  module _ (in_use : AreInUse (differing pages others) old) (apart : i < length others → get_or pages i 0 ≢ get_or others i 0) where
    abbrev page : ℕ
    page = get_or pages i 0

    pub can_give : AreInUse (page ∷ []) now
    can_give p =
        let fits : times p (differing pages others) + free_times old p ≤ page_times now.range p = rw so_far.same_range (in_use p) in
        omega (arith, fits, so_far.each p, differing_more p pages others i below apart)

    pub given_more : (new : FreePages) → AreGiven (page ∷ []) now new → IsGivenTo pages others (i + 1) old new
    given_more new given = rw add-one (record {
      same_range = given.same_range ∙ so_far.same_range;
      each = λ p. omega (arith, differing_more p pages others i below apart, so_far.each p, given.each p);
    })

-- One more page was taken, or was found not free.
pub taken_more : (pages : List ℕ) (i : ℕ) (old now new : FreePages) → i < length pages → AreTaken (take i pages) old now → AreTaken (get_or pages i 0 ∷ []) now new
    → AreTaken (take (i + 1) pages) old new
taken_more pages i old now new below so_far next = rw (take_more pages i 0 below) (taken-append (take i pages) (get_or pages i 0 ∷ []) old now new so_far next)

pub times-take : (p : ℕ) (pages : List ℕ) (i : ℕ) → i < length pages → times p (take i pages) + one p (get_or pages i 0) ≤ times p pages
times-take p [] i below = absurd (omega arith)
times-take p (x ∷ xs) zero below = omega arith
times-take p (x ∷ xs) (suc i) below = let rest = times-take p xs i (omega arith) in omega arith

pub unmarked_here : (pages : List ℕ) (i : ℕ) (old now : FreePages) (why : Refusal) → i < length pages → AreTaken (take i pages) old now
    → (why ≡ NoMemory) ⊎ ((why ≡ Damaged) × (free_times now (get_or pages i 0) ≡ 0)) → IsUnmarked old pages why
unmarked_here pages i old now why below so_far (inl memory) = inl memory
unmarked_here pages i old now why below so_far (inr (damaged, used)) =
    let page = get_or pages i 0 in
    inr (damaged, (page, omega (arith, so_far.each page, used, times-take page pages i below, one-self page)))

-- a list whose elements are set to pages as they are taken
pub taken_set : (pages : List ℕ) (i page : ℕ) (old now new : FreePages) → i < length pages → AreTaken (take i pages) old now → AreTaken (page ∷ []) now new → AreTaken (take (i + 1) (set pages i page)) old new
taken_set pages i page old now new below so_far one_more = rw (take_more_set pages i page below) (taken-append (take i pages) (page ∷ []) old now new so_far one_more)

-- ---- lists of pages taken one after the other
module _ {A : Type 0} (xs ys : List ℕ) (old now new : FreePages) (first : AreTaken xs old now) where
  pub marked_more : (r : Result A Refusal) → OnOk r (AreTaken ys now new) → OnOk r (AreTaken (xs ++ ys) old new)
  marked_more (Ok x) second = taken-append xs ys old now new first second
  marked_more (Err e) second = second

  pub unmarked_more : (r : Result A Refusal) → IfErr r (IsUnmarked now ys) → IfErr r (IsUnmarked old (xs ++ ys))
  unmarked_more (Ok x) second = second
  unmarked_more (Err e) (inl memory) = inl memory
  unmarked_more (Err e) (inr (damaged, (p, less))) = inr (damaged, (p, omega (arith, times-append p xs ys, first.each p)))

pub unmarked_first : (xs ys : List ℕ) (old : FreePages) (why : Refusal) → IsUnmarked old xs why → IsUnmarked old (xs ++ ys) why
unmarked_first xs ys old why (inl memory) = inl memory
unmarked_first xs ys old why (inr (damaged, (p, less))) = inr (damaged, (p, omega (arith, times-append p xs ys)))
