-- The passages found in all bands make up the spills of the whole. A band's passages stay if nothing changes in it or next to
-- it, except off borders between labels.
use Rattle.std.proofs.Common.{◌≡◌, ◌≢◌, ℕ, ◌+◌, ◌*◌, ◌<◌, ◌≤◌, ◌⊎◌, inl, inr, ℤ, IsTrue, List, [], ◌∷◌, ◌++◌, length, get_or, slice_index, refl, sym, ap, ap₂, ◌∙◌, subst, arith, Contains, IsPermutation, min, max, not, int_eq, mul-le-mul_right}
use Rattle.tile_flood.proofs.Prelude.{AreFoundBelow, AreFoundStill, ArePassages, AreSpills, IsFound, Spill, bare_block, cases_lt, int_max, is_beside, is_linked, is_marked, is_solid, ne_eqb, not-true, void, ≤ℤ_same}
use Rattle.std.proofs.lemmas.List.Elements.{Contains-append_cases, Contains-append_left, Contains-append_right}
use Rattle.labelling.specs.Spills.{Meets}
use Rattle.labelling.specs.Passing.{AreFirsts, IsListed, IsPassage}
use Rattle.labelling.proofs.Squares.{linked_parts, linked_from, solid_below, solid_if, test_if, solid_height}
use Rattle.labelling.proofs.Passages.{found_still, not_void, passage_meets, spills_in_order}
use Rattle.tile_flood.specs.Bands.{AreOfPoints, ArePlaces, IsPlace}

module _ (n : ℕ) (levels : List ℤ) (labels : List ℕ) where
  solid_of : (e : ℕ) → e < n * n → IsTrue (is_marked levels e) → IsTrue (is_solid (bare_block n levels) e)
  solid_of e below on = solid_if n levels e below (not-true (int_eq (get_or levels e void) void) on)

  -- the list of passages, with one more
  pub places_more : (from to : ℕ) (found found' : List Spill) (p : Spill) (e f : ℕ) → IsListed found found' p → ArePlaces n levels labels from to found → from ≤ e → e < to → e < f → e < n * n → f < n * n → IsTrue (is_beside n e f) →
      IsPassage levels labels e f p → ArePlaces n levels labels from to found'
  places_more from to found found' p e f is all low high later in_e in_f beside passage q has = elim (is.only q has) [
    | inl old ↦ all q old
    | inr new ↦ subst (IsPlace n levels labels from to) new (record {
      one = e;
      other = f;
      low = low;
      high = high;
      later = later;
      link = linked_from n levels e f (record { from = solid_of e in_e passage.from; to = solid_of f in_f passage.to; apart = ap not (ne_eqb e f (λ same. omega arith)); beside = beside });
      passage = passage;
    })
  ]

  place_passages : (from to : ℕ) (found : List Spill) → AreOfPoints n levels labels from to found → ArePassages n levels labels found
  place_passages from to found points p has =
      let place = points.each p has in
      let l = linked_parts n levels place.one place.other place.link in
      let later = place.later in
      passage_meets n levels labels place.one place.other p (solid_below n levels place.one l.from) (solid_below n levels place.other l.to) (λ same. omega arith) l.beside place.passage

  wider : (from to from' to' : ℕ) (p : Spill) → from' ≤ from → to ≤ to' → IsPlace n levels labels from to p → IsPlace n levels labels from' to' p
  wider from to from' to' p low high place = record { one = place.one; other = place.other; low = omega (arith, place.low); high = omega (arith, place.high); later = place.later; link = place.link; passage = place.passage }

  still_left : (xs ys : List Spill) → AreFoundStill xs (xs ++ ys)
  still_left xs ys p has = (p, (Contains-append_left xs ys p has, (record { same_a = refl; same_b = refl }, ≤ℤ_same p.level)))

  still_right : (xs ys : List Spill) → AreFoundStill ys (xs ++ ys)
  still_right xs ys p has = (p, (Contains-append_right xs ys p has, (record { same_a = refl; same_b = refl }, ≤ℤ_same p.level)))

  -- two successive ranges of points
  pub two_ranges : (from mid to : ℕ) (xs ys : List Spill) → from ≤ mid → mid ≤ to → AreOfPoints n levels labels from mid xs → AreOfPoints n levels labels mid to ys → AreOfPoints n levels labels from to (xs ++ ys)
  two_ranges from mid to xs ys up on one two = record {
    each = λ p has. elim (Contains-append_cases xs ys p has) [
      | inl left ↦ wider from mid from to p (omega arith) on (one.each p left)
      | inr right ↦ wider mid to from to p up (omega arith) (two.each p right)
    ];
    all = λ e f low high later. elim (cases_lt e mid) [
      | inl before ↦ found_still n levels labels xs (xs ++ ys) e f (still_left xs ys) (one.all e f low before later)
      | inr after ↦ found_still n levels labels ys (xs ++ ys) e f (still_right xs ys) (two.all e f after high later)
    ];
  }

  -- there are no passages beyond the last point
  pub none_past : (found : List Spill) (e f : ℕ) → n * n ≤ e → IsFound n levels labels found e f
  none_past found e f past link apart = absurd (let small = solid_below n levels e (linked_parts n levels e f link).from in omega arith)

  pub nothing_found : (from to : ℕ) → to ≤ from → AreOfPoints n levels labels from to []
  nothing_found from to none = record { each = λ p has. absurd (let some = has.1 in omega arith); all = λ e f low high later. absurd (omega arith) }

  -- the lowest passages between each two labels, over all points, are the block's spills
  pub spills_of_points : (to : ℕ) (found sorted firsts : List Spill) → n * n ≤ to → AreOfPoints n levels labels 0 to found → IsPermutation found sorted → AreFirsts sorted firsts → AreSpills n levels levels labels firsts
  spills_of_points to found sorted firsts enough points moved is =
      let below : AreFoundBelow n levels labels found (n * n) = λ e f less later. points.all e f (omega arith) (omega arith) later in
      spills_in_order n levels labels found sorted firsts (place_passages 0 to found points) below moved is

-- ---- the passages found in a range stay

module _ (n : ℕ) (levels levels' : List ℤ) (labels labels' : List ℕ) where
  abbrev pub IsSame : ℕ → Type 0
  IsSame e = (get_or levels' e void ≡ get_or levels e void) × (slice_index labels' e ≡ slice_index labels e)

  -- both points have their old level and label, or their labels are equal before and after
  abbrev pub IsStillBetween : ℕ → ℕ → Type 0
  IsStillBetween e f = (IsSame e × IsSame f) ⊎ ((slice_index labels e ≡ slice_index labels f) × (slice_index labels' e ≡ slice_index labels' f))

  solid_as : (e : ℕ) → IsSame e → IsTrue (is_solid (bare_block n levels) e) → IsTrue (is_solid (bare_block n levels') e)
  solid_as e same on = solid_if n levels' e (solid_below n levels e on) (not_void (get_or levels' e void) (subst (λ l. l ≢ void) (sym same.0) (solid_height n levels e on)))

  link_as : (e f : ℕ) → IsSame e → IsSame f → IsTrue (is_linked (bare_block n levels) e f) → IsTrue (is_linked (bare_block n levels') e f)
  link_as e f here there link = let l = linked_parts n levels e f link in linked_from n levels' e f (record { from = solid_as e here l.from; to = solid_as f there l.to; apart = l.apart; beside = l.beside })

  passage_as : (e f : ℕ) (p : Spill) → IsSame e → IsSame f → IsTrue (is_linked (bare_block n levels) e f) → IsPassage levels labels e f p → IsPassage levels' labels' e f p
  passage_as e f p here there link was =
      let l = linked_parts n levels e f link in record {
        from = test_if (get_or levels' e void) (solid_height n levels' e (solid_as e here l.from));
        to = test_if (get_or levels' f void) (solid_height n levels' f (solid_as f there l.to));
        apart = λ same. was.apart (sym here.1 ∙ (same ∙ there.1));
        lower = was.lower ∙ sym (ap₂ min here.1 there.1);
        higher = was.higher ∙ sym (ap₂ max here.1 there.1);
        level = was.level ∙ sym (ap₂ int_max here.0 there.0);
      }

-- passages stay if each linked pair of points, the first in the range, is unchanged or has equal labels before and after
pub range_stays : (n : ℕ) (levels levels' : List ℤ) (labels labels' : List ℕ) (from to : ℕ) →
    ((e f : ℕ) → from ≤ e → e < to → e < f → IsTrue (is_linked (bare_block n levels) e f) ⊎ IsTrue (is_linked (bare_block n levels') e f) → IsStillBetween n levels levels' labels labels' e f) →
    (found : List Spill) → AreOfPoints n levels labels from to found → AreOfPoints n levels' labels' from to found
range_stays n levels levels' labels labels' from to still found points = record {
  each = λ p has.
      let place = points.each p has in
      elim (still place.one place.other place.low place.high place.later (inl place.link)) [
        | inl same ↦ record {
          one = place.one;
          other = place.other;
          low = place.low;
          high = place.high;
          later = place.later;
          link = link_as n levels levels' labels labels' place.one place.other same.0 same.1 place.link;
          passage = passage_as n levels levels' labels labels' place.one place.other p same.0 same.1 place.link place.passage;
        }
        | inr alike ↦ absurd (place.passage.apart alike.0)
      ];
  all = λ e f low high later link apart.
      elim (still e f low high later (inr link)) [
        | inl same ↦
            let back_e : IsSame n levels' levels labels' labels e = (sym same.0.0, sym same.0.1) in
            let back_f : IsSame n levels' levels labels' labels f = (sym same.1.0, sym same.1.1) in
            let was : IsTrue (is_linked (bare_block n levels) e f) = link_as n levels' levels labels' labels e f back_e back_f link in
            let h = points.all e f low high later was (λ alike. apart (same.0.1 ∙ (alike ∙ sym same.1.1))) in
            (h.0, (h.1.0, passage_as n levels levels' labels labels' e f h.0 same.0 same.1 was h.1.1))
        | inr alike ↦ absurd (apart alike.1)
      ];
}
