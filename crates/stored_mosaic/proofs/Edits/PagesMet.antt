-- The number of pages of heights that an edit affects.
use Rattle.stored_mosaic.proofs.Prelude.{All, Bool, Contains, Corner, IfNone, IfSome, IsTrue, List, Option, Point, ℕ, [], ap, arith, before_not_same, cases_lt, cond, drop, eqb-true, false, false_from_ne_true, filter, get_or, has_point, holds, holds_is, index_of, is_corner, is_in_page, length, nat_eq, pages_met, pages_met_in, pages_of, pages_with, refl, same_corner, same_from, same_says, suc, sym, take, take-append-drop, take_more, true, zero, ⊎_elim, ◌&&◌, ◌*◌, ◌++◌, ◌+◌, ◌/◌, ◌<◌, ◌||◌, ◌∙◌, ◌∷◌, ◌≡◌, ◌≤◌, ◌⊎◌}
use Rattle.std.specs.Cmp.{IsEquivalence}
use Rattle.std.specs.List.{AllByRecursion, IsDistinct}
use Rattle.std.proofs.lemmas.List.Elements.{All-contains, All-filter, filter_passes}
use Rattle.std.proofs.lemmas.Map.Made.{is_member-Decides, length-le_from_is_member}
use Rattle.lattice.proofs.BoolTests.{same_tests}
use Rattle.lattice.proofs.Kept.{at_most_four}
use Rattle.lattice.proofs.Rising.{AllAfter, Rising, rising-filter}

-- ---- the pages of one tile

module _ (meets : ℕ → Bool) where
  -- No page between the two passes the test.
  pub met_same : (i j : ℕ) → i ≤ j → ((k : ℕ) → i ≤ k → k < j → meets k ≡ false) → pages_met_in meets j ≡ pages_met_in meets i
  met_same i zero le none = ap (pages_met_in meets) (let e : 0 ≡ i = omega (arith, le) in e)
  met_same i (suc j) le none =
      ⊎_elim
      (λ less.
      let rest : pages_met_in meets j ≡ pages_met_in meets i = met_same i j (omega (arith, less)) (λ k from below. none k from (omega (arith, below))) in
      let here : pages_met_in meets (suc j) ≡ pages_met_in meets j + 0 = ap (λ b. pages_met_in meets j + cond b 1 0) (none j (omega (arith, less)) (omega arith)) in
      omega (arith, here, rest))
      (λ past. ap (pages_met_in meets) (let e : suc j ≡ i = omega (arith, past, le) in e))
      (cases_lt i (suc j))

  pub met_within : (i j : ℕ) → i ≤ j → pages_met_in meets i ≤ pages_met_in meets j
  met_within i zero le = let e : pages_met_in meets i ≡ pages_met_in meets 0 = ap (pages_met_in meets) (let z : i ≡ 0 = omega (arith, le) in z) in omega (arith, e)
  met_within i (suc j) le =
      ⊎_elim
      (λ less. let rest = met_within i j (omega (arith, less)) in omega (arith, rest))
      (λ past. let e : pages_met_in meets i ≡ pages_met_in meets (suc j) = ap (pages_met_in meets) (let same : i ≡ suc j = omega (arith, past, le) in same) in omega (arith, e))
      (cases_lt i (suc j))

  -- the next page that passes
  pub met_next : (from i : ℕ) → from ≤ i → ((k : ℕ) → from ≤ k → k < i → meets k ≡ false) → meets i ≡ true → pages_met_in meets (i + 1) ≡ pages_met_in meets from + 1
  met_next from i le none met =
      let before = met_same from i le none in
      let here : pages_met_in meets (suc i) ≡ pages_met_in meets i + 1 = ap (λ b. pages_met_in meets i + cond b 1 0) met in
      let next : pages_met_in meets (i + 1) ≡ pages_met_in meets (suc i) = ap (pages_met_in meets) (let e : i + 1 ≡ suc i = omega arith in e) in
      omega (arith, before, here, next)

  pub met_some : (i pages : ℕ) → i < pages → meets i ≡ true → 1 ≤ pages_met_in meets pages
  met_some i pages below met =
      let here : pages_met_in meets (suc i) ≡ pages_met_in meets i + 1 = ap (λ b. pages_met_in meets i + cond b 1 0) met in
      let all = met_within (suc i) pages (omega (arith, below)) in
      omega (arith, here, all)

-- ---- the first page from a number on that passes

pub record IsFirst (meets : ℕ → Bool) (from pages : ℕ) (found : Option ℕ) : Type 0 where
  pub some : IfSome found (λ i. (from ≤ i) × (i < pages) × (meets i ≡ true))
  pub passed : IfSome found (λ end. (i : ℕ) → from ≤ i → i < end → meets i ≡ false)
  pub none : IfNone found ((i : ℕ) → from ≤ i → meets i ≡ false)

-- ---- the pages of several tiles

module _ (meets : Corner → ℕ → Bool) (pages : ℕ) where
  met_joined : (xs ys : List Corner) → pages_met meets pages (xs ++ ys) ≡ pages_met meets pages xs + pages_met meets pages ys
  met_joined [] ys = omega arith
  met_joined (x ∷ xs) ys = let rest = met_joined xs ys in omega (arith, rest)

  pub met_more : (corners : List Corner) (k : ℕ) (c : Corner) → k < length corners → c ≡ get_or corners k c → pages_met meets pages (take (k + 1) corners) ≡ pages_met meets pages (take k corners) + pages_met_in (meets c) pages
  met_more corners k c below is =
      let next : take (k + 1) corners ≡ take k corners ++ c ∷ [] = take_more corners k c below ∙ ap (λ (x : Corner). take k corners ++ x ∷ []) (sym is) in
      let both : pages_met meets pages (take (k + 1) corners) ≡ pages_met meets pages (take k corners) + pages_met meets pages (c ∷ []) = ap (pages_met meets pages) next ∙ met_joined (take k corners) (c ∷ []) in
      omega (arith, both)

  pub met_front : (corners : List Corner) (k : ℕ) → pages_met meets pages (take k corners) ≤ pages_met meets pages corners
  met_front corners k =
      let both : pages_met meets pages corners ≡ pages_met meets pages (take k corners) + pages_met meets pages (drop k corners) =
      ap (pages_met meets pages) (sym (take-append-drop k corners)) ∙ met_joined (take k corners) (drop k corners) in
      omega (arith, both)

-- ---- the pages with points

count_either : (a b : Bool) → cond (a || b) 1 0 ≤ cond a 1 0 + cond b 1 0
count_either true b = omega arith
count_either false b = omega arith

in_either : (a b : ℕ → Bool) (pages : ℕ) → pages_met_in (λ i. a i || b i) pages ≤ pages_met_in a pages + pages_met_in b pages
in_either a b zero = omega arith
in_either a b (suc i) = let rest = in_either a b i in let here = count_either (a i) (b i) in omega (arith, rest, here)

of_either : (a b : Corner → ℕ → Bool) (pages : ℕ) (corners : List Corner) → pages_met (λ c i. a c i || b c i) pages corners ≤ pages_met a pages corners + pages_met b pages corners
of_either a b pages [] = omega arith
of_either a b pages (c ∷ rest) = let here = in_either (a c) (b c) pages in let later = of_either a b pages rest in omega (arith, here, later)

none_met : (pages : ℕ) → pages_met_in (λ i. false) pages ≡ 0
none_met zero = refl
none_met (suc i) = let rest = none_met i in omega (arith, rest)

-- An index is on one page only.
one_met : (k pages : ℕ) → pages_met_in (nat_eq k) pages ≤ 1
one_met k zero = omega arith
one_met k (suc i) = by (nat_eq k i) refl (one_met k i)
  where
    by : (b : Bool) → nat_eq k i ≡ b → pages_met_in (nat_eq k) i ≤ 1 → pages_met_in (nat_eq k) i + cond (nat_eq k i) 1 0 ≤ 1
    by true is few =
        let same : k ≡ i = eqb-true k i is in
        let before : pages_met_in (nat_eq k) i ≡ pages_met_in (nat_eq k) 0 =
        met_same (nat_eq k) 0 i (omega arith) (λ j from below. false_from_ne_true (nat_eq k j) (λ e. let other : k ≡ j = eqb-true k j e in omega (arith, same, other, below))) in
        let here : ◌≡◌ {A = ℕ} (cond (nat_eq k i) 1 0) 1 = ap (λ b. cond b 1 0) is in
        omega (arith, before, here)
    by false is few =
        let here : ◌≡◌ {A = ℕ} (cond (nat_eq k i) 1 0) 0 = ap (λ b. cond b 1 0) is in
        omega (arith, few, here)

one_held : (b : Bool) (k pages : ℕ) → pages_met_in (λ i. b && nat_eq k i) pages ≤ cond b 1 0
one_held true k pages = one_met k pages
one_held false k pages = let none = none_met pages in omega (arith, none)

module _ (n : ℕ) (p : Point) where
  -- The pages with a point are at most as many as the tiles with it.
  held_in : (pages : ℕ) (corners : List Corner) → pages_met (λ c i. is_in_page n c i p) pages corners ≤ length (filter (λ c. holds n c p) corners)
  held_in pages [] = omega arith
  held_in pages (c ∷ rest) =
      let here : pages_met_in (λ i. is_in_page n c i p) pages ≤ cond (holds n c p) 1 0 = one_held (holds n c p) (index_of n c p / 2048) pages in
      let later = held_in pages rest in
      by (holds n c p) (omega (arith, here, later))
    where
      by : (b : Bool) → pages_met (λ d i. is_in_page n d i p) pages (c ∷ rest) ≤ cond b 1 0 + length (filter (λ d. holds n d p) rest)
          → pages_met (λ d i. is_in_page n d i p) pages (c ∷ rest) ≤ length (cond b (c ∷ filter (λ d. holds n d p) rest) (filter (λ d. holds n d p) rest))
      by true le = omega (arith, le)
      by false le = omega (arith, le)

-- At most four tiles have a point.
same_corners : IsEquivalence same_corner
same_corners = record {
  refl = λ x. same_from x x refl;
  symm = λ x y. same_tests (same_corner x y) (same_corner y x) (λ is. same_from y x (sym (same_says x y is))) (λ is. same_from x y (sym (same_says y x is)));
  congr = λ x y z is. ap (λ (c : Corner). same_corner c z) (same_says x y is);
}

apart : (c : Corner) (xs : List Corner) → AllAfter (λ d. d) c xs → AllByRecursion (λ d. same_corner c d ≡ false) xs
apart c [] after = tt
apart c (x ∷ xs) after = (before_not_same c x after.0, apart c xs after.1)

distinct : (xs : List Corner) → Rising (λ d. d) xs → IsDistinct same_corner xs
unfolding IsDistinct
distinct [] rising = tt
distinct (x ∷ xs) rising = (apart x xs rising.0, distinct xs rising.1)

few_holders : (n : ℕ) (p : Point) (corners : List Corner) → 3 ≤ n → Rising (λ d. d) corners → All (λ d. IsTrue (is_corner d)) corners → length (filter (λ c. holds n c p) corners) ≤ 4
few_holders n p corners side rising whole =
    let test : Corner → Bool = λ c. holds n c p in
    let found = at_most_four n p side in
    let same : (a b : Corner) → (same_corner a b ≡ true → a ≡ b) × (a ≡ b → same_corner a b ≡ true) = λ a b. (same_says a b, same_from a b) in
    let few = length-le_from_is_member same_corners (filter test corners) found.0 (distinct (filter test corners) (rising-filter (λ d. d) test corners rising))
    (λ q is.
    let there : Contains (filter test corners) q = (is_member-Decides same (filter test corners) q).0 is in
    let held : holds n q p ≡ true = All-contains (λ c. holds n c p ≡ true) (filter test corners) q (filter_passes test corners) there in
    let corner : IsTrue (is_corner q) = All-contains (λ d. IsTrue (is_corner d)) (filter test corners) q (All-filter test (λ d. IsTrue (is_corner d)) corners whole) there in
    (is_member-Decides same found.0 q).1 ((found.1.0.exactly q).1 ((holds_is n q p side corner).0 held))) in
    omega (arith, few, found.1.1)

-- So a point is on at most four pages, and points are on at most four times as many.
pub pages_few : (n : ℕ) (corners : List Corner) → 3 ≤ n → Rising (λ d. d) corners → All (λ d. IsTrue (is_corner d)) corners → (points : List Point) → pages_with n corners points ≤ 4 * length points
pages_few n corners side rising whole [] = let none = no_points (pages_of n) corners in omega (arith, none)
  where
    no_points : (pages : ℕ) (cs : List Corner) → pages_met (λ c i. false) pages cs ≡ 0
    no_points pages [] = refl
    no_points pages (c ∷ rest) = let here = none_met pages in let later = no_points pages rest in omega (arith, here, later)
pages_few n corners side rising whole (p ∷ rest) =
    let first = held_in n p (pages_of n) corners in
    let four = few_holders n p corners side rising whole in
    let later = pages_few n corners side rising whole rest in
    let both : pages_with n corners (p ∷ rest) ≤ pages_met (λ c i. is_in_page n c i p) (pages_of n) corners + pages_with n corners rest =
    of_either (λ c i. is_in_page n c i p) (has_point n rest) (pages_of n) corners in
    omega (arith, first, four, later, both)
