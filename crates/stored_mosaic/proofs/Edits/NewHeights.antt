-- New heights of points: their effect on samples, page by page and in all.
use Rattle.stored_mosaic.proofs.Prelude.{Bool, Contains, Corner, IsEdited, IsPage, IsSample, IsTrue, LeavesPage, List, Mosaic, NewHeight, Point, ℕ, ℤ, [], and_from, ap, arith, cond, edited, false, false_from_ne_true, get_or, has_point, heightened, high_byte, inl, inr, is_corner, is_in_page, length, length-set, low_byte, nat_eq, or_right, page_sample, refl, set, subst, suc, sym, take, take_all, take_more, true, zero, ⊎_elim, ◌&&◌, ◌*◌, ◌++◌, ◌+◌, ◌/◌, ◌<◌, ◌||◌, ◌∙◌, ◌∷◌, ◌≡◌, ◌≢◌, ◌≤◌, ◌⊎◌}
use Rattle.std.proofs.lemmas.Cmp.{nat_eq_equiv}
use Rattle.lattice.specs.Ground.{same_point}
use Rattle.lattice.specs.Lattice.{Holds, IsIndexOf, holds, index_of, point_of}
use Rattle.lattice.proofs.SamePoints.{same_point_says, same_point_from}
use Rattle.lattice.proofs.Samples.{held_at, holds_is, index_is, index_of_point, index_of_point_is, index_unique, point_at_index, point_of_held}
use Rattle.lattice.proofs.Multiples.{some_side}
use Rattle.edits.specs.Edits.{points_of, with_height, with_heights}
use Rattle.edits.proofs.Edited.{edited_none, edited_twice}
use Rattle.stored_mosaic.proofs.Pages.{with_bytes, page_with_bytes}
use Rattle.stored_mosaic.proofs.Edits.VoidPages.{sample_put, sample_beside}

-- ---- one edit after another

pub heights_made : (heights : List NewHeight) (m : Mosaic) → with_heights heights m ≡ edited (heightened heights) m
heights_made [] m = sym (edited_none m)
heights_made (h ∷ later) m = heights_made later (with_height h.point h.metres m) ∙ edited_twice (λ p s. cond (same_point p h.point) h.metres s) (heightened later) m

-- ---- the effect on one sample

-- The sample doesn't change, or gets a value that doesn't depend on it.
left_or_set : (heights : List NewHeight) (p : Point) → ((s : ℤ) → heightened heights p s ≡ s) ⊎ ((s t : ℤ) → heightened heights p s ≡ heightened heights p t)
left_or_set [] p = inl (λ s. refl)
left_or_set (h ∷ later) p = by (same_point p h.point) (left_or_set later p)
  where
    by : (b : Bool) → ((s : ℤ) → heightened later p s ≡ s) ⊎ ((s t : ℤ) → heightened later p s ≡ heightened later p t)
        → ((s : ℤ) → heightened later p (cond b h.metres s) ≡ s) ⊎ ((s t : ℤ) → heightened later p (cond b h.metres s) ≡ heightened later p (cond b h.metres t))
    by true so = inr (λ s t. refl)
    by false so = so

pub heightened_once : (heights : List NewHeight) (p : Point) (s : ℤ) → heightened heights p (heightened heights p s) ≡ heightened heights p s
heightened_once heights p s = ⊎_elim (λ left. left (heightened heights p s)) (λ set. set (heightened heights p s) s) (left_or_set heights p)

-- The sample of a point that isn't named doesn't change.
pub named_or_left : (heights : List NewHeight) (p : Point) → ((h : NewHeight) × (Contains heights h × (h.point ≡ p))) ⊎ ((s : ℤ) → heightened heights p s ≡ s)
named_or_left [] p = inr (λ s. refl)
named_or_left (h ∷ later) p = by (same_point p h.point) refl (named_or_left later p)
  where
    by : (b : Bool) → same_point p h.point ≡ b → ((x : NewHeight) × (Contains later x × (x.point ≡ p))) ⊎ ((s : ℤ) → heightened later p s ≡ s)
        → ((x : NewHeight) × (Contains (h ∷ later) x × (x.point ≡ p))) ⊎ ((s : ℤ) → heightened later p (cond b h.metres s) ≡ s)
    by true is so = inl (h, ((0, omega arith, refl), sym (same_point_says p h.point is)))
    by false is (inl (x, ((k, below, here), point))) = inl (x, ((suc k, omega (arith, below), here), point))
    by false is (inr left) = inr left

-- the samples after one more height
more_heights : (heights : List NewHeight) (h : NewHeight) (p : Point) (s : ℤ) → heightened (heights ++ h ∷ []) p s ≡ cond (same_point p h.point) h.metres (heightened heights p s)
more_heights [] h p s = refl
more_heights (x ∷ rest) h p s = more_heights rest h p (cond (same_point p x.point) x.metres s)

-- ---- the heights of a page, one after another

pub length_with_bytes : (j : ℕ) (s : ℤ) (page : List ℕ) → length (with_bytes j s page) ≡ length page
length_with_bytes j s page = length-set (set page (2 * j) (high_byte s)) (2 * j + 1) (low_byte s) ∙ length-set page (2 * j) (high_byte s)

-- The first k heights are set in the page.
pub record IsSetTo (n : ℕ) (heights : List NewHeight) (c : Corner) (i k : ℕ) (was now : List ℕ) : Type 0 where
  pub page : IsPage was → IsPage now
  pub long : length now ≡ 4096
  pub samples : (j : ℕ) → j < 2048 → 2048 * i + j < n * n → page_sample now j ≡ heightened (take k heights) (point_of n c (2048 * i + j)) (page_sample was j)

module _ (n : ℕ) (heights : List NewHeight) (c : Corner) (corner : IsTrue (is_corner c)) (i : ℕ) (was : List ℕ) (k : ℕ) (h : NewHeight) (within : k < length heights) (is : h ≡ get_or heights k h) (now : List ℕ)
    (so : IsSetTo n heights c i k was now) where
  next_is : take (k + 1) heights ≡ take k heights ++ h ∷ []
  next_is = take_more heights k h within ∙ ap (λ (x : NewHeight). take k heights ++ x ∷ []) (sym is)

  abbrev point : ℕ → Point
  point j = point_of n c (2048 * i + j)

  named : (j : ℕ) → 2048 * i + j < n * n → same_point (point j) h.point ≡ true → IsIndexOf n c h.point (2048 * i + j)
  named j inside same = subst (λ (p : Point). IsIndexOf n c p (2048 * i + j)) (same_point_says (point j) h.point same) (index_of_point n c (2048 * i + j) (some_side n (2048 * i + j) inside) corner inside)

  step : (j : ℕ) (s : ℤ) (b : Bool) → same_point (point j) h.point ≡ b → s ≡ cond b h.metres (heightened (take k heights) (point j) (page_sample was j)) → s ≡ heightened (take (k + 1) heights) (point j) (page_sample was j)
  step j s b same value =
      value ∙ ap (λ v. cond v h.metres (heightened (take k heights) (point j) (page_sample was j))) (sym same)
      ∙ sym (more_heights (take k heights) h (point j) (page_sample was j)) ∙ ap (λ (l : List NewHeight). heightened l (point j) (page_sample was j)) (sym next_is)

  -- The point is on the page.
  pub height_set : (at : ℕ) → at < 2048 → IsIndexOf n c h.point (2048 * i + at) → IsSample h.metres → IsSetTo n heights c i (k + 1) was (with_bytes at h.metres now)
  height_set at below index sample = record {
    page = λ page_is. page_with_bytes at h.metres now (so.page page_is);
    long = length_with_bytes at h.metres now ∙ so.long;
    samples = λ j small inside. step j (page_sample (with_bytes at h.metres now) j) (same_point (point j) h.point) refl (by j small inside (same_point (point j) h.point) refl);
  }
    where
      by : (j : ℕ) → j < 2048 → 2048 * i + j < n * n → (b : Bool) → same_point (point j) h.point ≡ b
          → page_sample (with_bytes at h.metres now) j ≡ cond b h.metres (heightened (take k heights) (point j) (page_sample was j))
      by j small inside true same =
          let one : 2048 * i + j ≡ 2048 * i + at = index_unique n c h.point (2048 * i + j) (2048 * i + at) (named j inside same) index in
          let there : j ≡ at = omega (arith, one) in
          ap (page_sample (with_bytes at h.metres now)) there ∙ sample_put now at h.metres so.long below sample
      by j small inside false other =
          let apart : j ≢ at = λ there.
          let same : same_point (point j) h.point ≡ true = same_point_from (point j) h.point (ap point there ∙ point_at_index n c h.point (2048 * i + at) index) in
          let no : true ≡ false = sym same ∙ other in cc in
          sample_beside now at h.metres j apart ∙ so.samples j small inside

  -- The point is on the page, and has the height already.
  pub height_there : (at : ℕ) → at < 2048 → IsIndexOf n c h.point (2048 * i + at) → page_sample now at ≡ h.metres → IsSetTo n heights c i (k + 1) was now
  height_there at below index value = record {
    page = so.page;
    long = so.long;
    samples = λ j small inside. step j (page_sample now j) (same_point (point j) h.point) refl (by j small inside (same_point (point j) h.point) refl);
  }
    where
      by : (j : ℕ) → j < 2048 → 2048 * i + j < n * n → (b : Bool) → same_point (point j) h.point ≡ b → page_sample now j ≡ cond b h.metres (heightened (take k heights) (point j) (page_sample was j))
      by j small inside true same =
          let one : 2048 * i + j ≡ 2048 * i + at = index_unique n c h.point (2048 * i + j) (2048 * i + at) (named j inside same) index in
          let there : j ≡ at = omega (arith, one) in
          ap (page_sample now) there ∙ value
      by j small inside false other = so.samples j small inside

  -- The point isn't on the page.
  pub height_passed : ((e : ℕ) → IsIndexOf n c h.point e → e / 2048 ≢ i) → IsSetTo n heights c i (k + 1) was now
  height_passed none = record {
    page = so.page;
    long = so.long;
    samples = λ j small inside.
        step j (page_sample now j) (same_point (point j) h.point) refl
        (so.samples j small inside
        ∙ sym (ap (λ b. cond b h.metres (heightened (take k heights) (point j) (page_sample was j)))
        (false_from_ne_true (same_point (point j) h.point) (λ same. none (2048 * i + j) (named j inside same) (omega (arith, small))))));
  }

pub all_set : (n : ℕ) (heights : List NewHeight) (c : Corner) (i k : ℕ) (was now : List ℕ) → length heights ≤ k → IsSetTo n heights c i k was now → IsEdited n (heightened heights) c i was now
all_set n heights c i k was now all so = record {
  page = so.page;
  samples = λ j small inside. so.samples j small inside ∙ ap (λ (l : List NewHeight). heightened l (point_of n c (2048 * i + j)) (page_sample was j)) (take_all k heights all);
}

-- ---- the pages with points

module _ (n : ℕ) (c : Corner) (i : ℕ) where
  one_point : (heights : List NewHeight) (h : NewHeight) → Contains heights h → is_in_page n c i h.point ≡ true → has_point n (points_of heights) c i ≡ true
  one_point [] h (k, below, here) is = absurd (omega (arith, below))
  one_point (x ∷ xs) h (zero, below, here) is = ap (λ b. b || has_point n (points_of xs) c i) (ap (λ (y : NewHeight). is_in_page n c i y.point) here ∙ is)
  one_point (x ∷ xs) h (suc k, below, here) is = or_right (is_in_page n c i x.point) (has_point n (points_of xs) c i) (one_point xs h (k, omega (arith, below), here) is)

  -- A page without points doesn't change.
  pub points_left : (heights : List NewHeight) → 3 ≤ n → IsTrue (is_corner c) → has_point n (points_of heights) c i ≡ false → LeavesPage n (heightened heights) c i
  points_left heights side corner none e inside here s =
      ⊎_elim
      (λ named.
      let some = some_side n e inside in
      let p : Point = point_of n c e in
      let held : holds n c p ≡ true = (holds_is n c p side corner).1 (point_of_held n c e some corner inside) in
      let at : nat_eq (index_of n c p / 2048) i ≡ true = ap (λ (k : ℕ). nat_eq (k / 2048) i) (index_of_point_is n c e some corner inside) ∙ ap (λ (k : ℕ). nat_eq k i) here ∙ nat_eq_equiv.refl i in
      let lies : is_in_page n c i named.0.point ≡ true = ap (is_in_page n c i) named.1.1 ∙ and_from (holds n c p) (nat_eq (index_of n c p / 2048) i) held at in
      absurd (let no : true ≡ false = sym (one_point heights named.0 named.1.0 lies) ∙ none in cc))
      (λ left. left s)
      (named_or_left heights (point_of n c e))

-- A point of the tile is on the page of its index. Any other point is on no page of the tile.
pub in_no_page : (n : ℕ) (c : Corner) (p : Point) → 3 ≤ n → IsTrue (is_corner c) → (Holds n c p → ⊥) → (i : ℕ) → is_in_page n c i p ≡ false
in_no_page n c p side corner out i = ap (λ b. b && nat_eq (index_of n c p / 2048) i) (false_from_ne_true (holds n c p) (λ held. out ((holds_is n c p side corner).0 held)))

pub in_own_page : (n : ℕ) (c : Corner) (p : Point) (e : ℕ) → 3 ≤ n → IsIndexOf n c p e → (i : ℕ) → is_in_page n c i p ≡ nat_eq (e / 2048) i
in_own_page n c p e side at i =
    ap (λ b. b && nat_eq (index_of n c p / 2048) i) ((holds_is n c p side at.corner).1 (held_at n c p e at)) ∙ ap (λ (k : ℕ). nat_eq (k / 2048) i) (index_is n c p e at)

-- New heights leave the sinks unchanged.
pub sinks_kept : (heights : List NewHeight) (m : Mosaic) → (with_heights heights m).sinks ≡ m.sinks
sinks_kept [] m = refl
sinks_kept (h ∷ later) m = sinks_kept later (with_height h.point h.metres m)
