-- Free pages counted by their numbers.
use Rattle.page_map.proofs.Prelude.{AreBalanced, AreGiven, AreInUse, AreTaken, Bool, FreePages, List, PageRange, ℕ, [], ap, ap₂, arith, cond, contains, eqb, false, free_times, inl, inr, nat_cmp, nat_tests, page_times, refl, subst, sym, times, true, ◌++◌, ◌+◌, ◌<◌, ◌∙◌, ◌∷◌, ◌≡◌, ◌≢◌, ◌≤◌}
use Rattle.std.specs.BTreeSet as tree
use Rattle.std.specs.Prelude.{not, ◌&&◌, ◌||◌, nat_le, nat_lt}
use Rattle.std.proofs.lemmas.Bool.{false_from_ne_true, cases_eq, eq-eqb, ne_eqb, le-leb, lt-ltb}
use Rattle.std.specs.BTreeSet.{BTreeSet}
use Rattle.page_alloc.specs.Pages.{PageSet, IsPage, IsFree, with_page, without_page}
use Rattle.page_alloc.proofs.PageLemmas.{contains-with, contains-without}
use Rattle.page_map.proofs.Times.{one-other, one-self, times-append}

-- a page of the window
module _ (pages : FreePages) (p : ℕ) (near : p < pages.range.window) where
  pub free_near : free_times pages p ≡ cond (contains pages.free p) 1 0
  free_near = rw (lt-ltb p pages.range.window near) refl

  pub near_times : (is : Bool) → contains pages.free p ≡ is → free_times pages p ≡ cond is 1 0
  near_times is same = free_near ∙ ap (λ (b : Bool). cond b 1 0) same

pub page_at : (range : PageRange) (p : ℕ) → 1 ≤ page_times range p → IsPage range.sectors p
page_at range p some = grind (arith, nat_tests)

pub page_one : (range : PageRange) (p : ℕ) → IsPage range.sectors p → page_times range p ≡ 1
page_one range p (low, high) = rw (le-leb 4 p low, lt-ltb p range.sectors high) refl

pub page_le : (range : PageRange) (p : ℕ) → page_times range p ≤ 1
page_le range p = elim (nat_le 4 p && nat_lt p range.sectors) as (λ b. cond b 1 0 ≤ 1) [ true ↦ omega arith | false ↦ omega arith ]

-- ---- a change of one page
module _ (old new : FreePages) (same : new.range ≡ old.range) (k : ℕ) (others : (p : ℕ) → p ≢ k → free_times new p ≡ free_times old p) where
  one_changed : (xs ys : List ℕ) → ((p : ℕ) → p ≢ k → times p xs ≡ times p ys) → times k ys + free_times new k ≡ times k xs + free_times old k → AreBalanced xs ys old new
  one_changed xs ys apart at = record { same_range = same; each = λ p. elim (cases_eq p k) [ inl here ↦ rw here at | inr other ↦ omega (arith, others p other, apart p other) ] }

  one_taken : free_times old k ≡ 1 → free_times new k ≡ 0 → AreTaken (k ∷ []) old new
  one_taken was is = one_changed [] (k ∷ []) (λ p other. omega (arith, one-other p k other)) (omega (arith, was, is, one-self k))

  one_given : free_times old k ≡ 0 → free_times new k ≡ 1 → AreGiven (k ∷ []) old new
  one_given was is = one_changed (k ∷ []) [] (λ p other. omega (arith, one-other p k other)) (omega (arith, was, is, one-self k))

-- the free pages of a disk with this many sectors: those in its window, and all after the window that aren't in use
abbrev pub pages_by : ℕ → PageSet → BTreeSet ℕ → FreePages
pages_by sectors near far = record { range = record { sectors = sectors; window = near.total }; free = near.free; far = far }

module _ (sectors : ℕ) (near new : PageSet) (far : BTreeSet ℕ) (k : ℕ) (inside : k < near.total) where
  others_near : new.total ≡ near.total → ((p : ℕ) → p ≢ k → contains new.free p ≡ contains near.free p) → (p : ℕ) → p ≢ k → free_times (pages_by sectors new far) p ≡ free_times (pages_by sectors near far) p
  others_near total alike p other = ap₂ (λ (w : ℕ) (b : Bool). cond (cond (nat_lt p w) b (nat_lt p sectors && not (tree.contains nat_cmp far p))) 1 0) total (alike p other)

  pub near_marked : IsFree near k → new ≡ without_page near k → AreTaken (k ∷ []) (pages_by sectors near far) (pages_by sectors new far)
  near_marked free is =
      let total : new.total ≡ near.total = ap (λ (s : PageSet). s.total) is in
      let left : (p : ℕ) → contains new.free p ≡ (not (eqb p k) && contains near.free p) = λ p. ap (λ (s : PageSet). contains s.free p) is ∙ contains-without near.free k p in
      one_taken (pages_by sectors near far) (pages_by sectors new far) (ap (λ (s : PageSet). (pages_by sectors s far).range) is) k
      (others_near total (λ p other. left p ∙ ap (λ b. not b && contains near.free p) (ne_eqb p k other))) (near_times (pages_by sectors near far) k inside true free)
      (near_times (pages_by sectors new far) k (subst (λ (w : ℕ). k < w) (sym total) inside) false (left k ∙ ap (λ b. not b && contains near.free k) (eq-eqb k k refl)))

  pub near_back : ¬ IsFree near k → new ≡ with_page near k → AreGiven (k ∷ []) (pages_by sectors near far) (pages_by sectors new far)
  near_back used is =
      let total : new.total ≡ near.total = ap (λ (s : PageSet). s.total) is in
      let more : (p : ℕ) → contains new.free p ≡ (eqb p k || contains near.free p) = λ p. ap (λ (s : PageSet). contains s.free p) is ∙ contains-with near.free k p in
      one_given (pages_by sectors near far) (pages_by sectors new far) (ap (λ (s : PageSet). (pages_by sectors s far).range) is) k
      (others_near total (λ p other. more p ∙ ap (λ b. b || contains near.free p) (ne_eqb p k other))) (near_times (pages_by sectors near far) k inside false (false_from_ne_true (contains near.free k) used))
      (near_times (pages_by sectors new far) k (subst (λ (w : ℕ). k < w) (sym total) inside) true (more k ∙ ap (λ b. b || contains near.free k) (eq-eqb k k refl)))

  pub not_near : ¬ IsFree near k → free_times (pages_by sectors near far) k ≡ 0
  not_near used = near_times (pages_by sectors near far) k inside false (false_from_ne_true (contains near.free k) used)

-- A page that can be freed is a page of the disk, and isn't free.
pub one_in_use : (pages : FreePages) (k : ℕ) → AreInUse (k ∷ []) pages → IsPage pages.range.sectors k × (free_times pages k ≡ 0)
one_in_use pages k in_use =
    let here = in_use k in
    let own = one-self k in
    let high = page_le pages.range k in
    (page_at pages.range k (omega arith), omega arith)

pub near_in_use : (sectors : ℕ) (near : PageSet) (far : BTreeSet ℕ) (k : ℕ) → k < near.total → AreInUse (k ∷ []) (pages_by sectors near far) → ¬ IsFree near k
near_in_use sectors near far k inside in_use free =
    let none = (one_in_use (pages_by sectors near far) k in_use).1 in
    let some = near_times (pages_by sectors near far) k inside true free in
    absurd (omega arith)

-- ---- lists of pages
pub in_use-first : (xs ys : List ℕ) (a : FreePages) → AreInUse (xs ++ ys) a → AreInUse xs a
in_use-first xs ys a in_use p = omega (arith, times-append p xs ys, in_use p)

pub in_use-last : (xs ys : List ℕ) (a : FreePages) → AreInUse (xs ++ ys) a → AreInUse ys a
in_use-last xs ys a in_use p = omega (arith, times-append p xs ys, in_use p)

-- ---- pages that replace others
pub balanced_same : (xs : List ℕ) (a : FreePages) → AreBalanced xs xs a a
balanced_same xs a = record { same_range = refl; each = λ p. refl }

-- The same replacement, with lists that differ in the same pages.
pub balanced_as : {xs ys new_xs new_ys : List ℕ} {a b : FreePages} → AreBalanced xs ys a b → ((p : ℕ) → times p new_ys + times p xs ≡ times p new_xs + times p ys) → AreBalanced new_xs new_ys a b
balanced_as balanced same = record { same_range = balanced.same_range; each = λ p. omega (arith, same p, balanced.each p) }

pub balanced_on : (xs ys zs : List ℕ) (a b c : FreePages) → AreBalanced xs ys a b → AreBalanced ys zs b c → AreBalanced xs zs a c
balanced_on xs ys zs a b c first second = record { same_range = second.same_range ∙ first.same_range; each = λ p. second.each p ∙ first.each p }

module _ (xs new_xs ys : List ℕ) (a b : FreePages) (first : AreBalanced xs new_xs a b) where
  pub balanced-append : (new_ys : List ℕ) (c : FreePages) → AreBalanced ys new_ys b c → AreBalanced (xs ++ ys) (new_xs ++ new_ys) a c
  balanced-append new_ys c second = record {
    same_range = second.same_range ∙ first.same_range;
    each = λ p. omega (arith, times-append p xs ys, times-append p new_xs new_ys, first.each p, second.each p);
  }

  pub rest_in_use_still : AreInUse (xs ++ ys) a → AreInUse ys b
  rest_in_use_still in_use p = let same = ap (λ r. page_times r p) first.same_range in omega (arith, same, times-append p xs ys, in_use p, first.each p)

-- pages taken, or freed, one after another
pub taken-append : (xs ys : List ℕ) (a b c : FreePages) → AreTaken xs a b → AreTaken ys b c → AreTaken (xs ++ ys) a c
taken-append xs ys a b c first second = balanced-append [] xs [] a b first ys c second

pub given-append : (xs ys : List ℕ) (a b c : FreePages) → AreGiven xs a b → AreGiven ys b c → AreGiven (xs ++ ys) a c
given-append xs ys a b c first second = balanced-append xs [] ys a b first [] c second
