-- The remaining results are right for the changed mosaic. Also: lists whose elements are dropped one by one.
use Rattle.levels.proofs.Prelude.{AreLevelsStill, AreReady, Corner, DifferAt, DifferBetween, IsEntered, IsRight, IsRimLevel, IsSetFrom, IsTileLabelling, Known, List, Mosaic, NewHeight, Point, Summarizes, TileGraph, ℕ, ℤ, [], ap, arith, cases_eq, corner_at, corners_of, false, get_or, get_or-set_other, get_or-set_same, inl, inr, is_reached, length, length-set, level_of, loaded_at, or_parts, reaches, subst, suc, sym, zero, ◌*◌, ◌+◌, ◌-◌, ◌<◌, ◌^◌, ◌∙◌, ◌∷◌, ◌≡◌, ◌≤◌}
use Rattle.std.specs.Prelude.{◌↔◌, Option, Some, None, slice_set, nat_lt, not}
use Rattle.levels.specs.Invalidating.{IsLeftOf, IsNotedOf}
use Rattle.levels.proofs.Changes.BelowSummaries.{summarizes_below}
use Rattle.levels.proofs.Changes.SparedLevels.{rim_level_still}
use Rattle.levels.proofs.Changes.Unreached.{labelling_still, summarizes_still}

-- ---- the remaining results are right

none_is : {A : Type 0} (a : A) → ◌≡◌ {A = Option A} None (Some a) → ⊥
none_is a e = cc

-- the remaining summaries are right
left_ready : (m new : Mosaic) (known known' : Known) → new.side ≡ m.side → corners_of new ≡ corners_of m → known'.side ≡ known.side → known'.corners ≡ known.corners → length known'.loaded ≡ length known.loaded
    → ((t : ℕ) (ways : TileGraph) → loaded_at known'.loaded t ≡ Some ways → (loaded_at known.loaded t ≡ Some ways) × Summarizes new ways.summary) → IsRight m known → AreReady new known'.side known'.corners known'.loaded
left_ready m new known known' new_side new_corners same_side same_corners whole left right = record {
  same_side = same_side ∙ (right.ready.same_side ∙ sym new_side);
  all = same_corners ∙ (right.ready.all ∙ sym new_corners);
  room = subst (λ (n : ℕ). 1 + length known'.corners * (4 * (n - 1)) < 2 ^ 32) (sym same_side)
      (subst (λ (cs : List Corner). 1 + length cs * (4 * (known.side - 1)) < 2 ^ 32) (sym same_corners) right.ready.room);
  tiles = record {
    whole = whole ∙ (right.ready.tiles.whole ∙ ap (λ (cs : List Corner). length cs) (sym same_corners));
    sides = λ t ways is. right.ready.tiles.sides t ways (left t ways is).0 ∙ sym same_side;
    places = λ t ways is. right.ready.tiles.places t ways (left t ways is).0 ∙ ap (λ (cs : List Corner). corner_at cs t) (sym same_corners);
    summaries = λ t ways is. (left t ways is).1;
  };
}

module _ (m new : Mosaic) (from to : Point) (known : Known) (differ : DifferBetween m new from to) (right : IsRight m known) where
  unreached : (t : ℕ) → is_reached known.side known.corners from to t ≡ false → reaches m.side (corner_at known.corners t) from to ≡ false
  unreached t out = ap (λ (n : ℕ). reaches n (corner_at known.corners t) from to) (sym right.ready.same_side)
      ∙ (or_parts (not (nat_lt t (length known.corners))) (reaches known.side (corner_at known.corners t) from to) out).1

  -- a summary that the box doesn't reach stays right
  summary_unreached : (t : ℕ) (ways : TileGraph) → loaded_at known.loaded t ≡ Some ways → is_reached known.side known.corners from to t ≡ false → Summarizes new ways.summary
  summary_unreached t ways is out =
      let unmet : reaches m.side ways.summary.corner from to ≡ false = ap (λ (c : Corner). reaches m.side c from to) (right.ready.tiles.places t ways is) ∙ unreached t out in
      summarizes_still m new from to differ ways.summary unmet (right.ready.tiles.summaries t ways is)

pub left_right : (m new : Mosaic) (from to : Point) (spared : ℤ → Type 0) (known known' : Known) → DifferBetween m new from to → AreLevelsStill spared m new → IsLeftOf (is_reached known.side known.corners from to) spared known known' → IsRight m known
    → IsRight new known'
left_right m new from to spared known known' differ still left right = record {
  ready = left_ready m new known known' differ.same_side differ.same_corners left.same_side left.same_corners left.whole
      (λ t ways is. let was = (left.loaded t ways).0 is in (was.0, summary_unreached m new from to known differ right t ways was.0 was.1)) right;
  labellings = λ t labelling is.
      let was = (left.labellings t labelling).0 is in
      subst (λ (cs : List Corner). IsTileLabelling new (corner_at cs t) labelling) (sym left.same_corners)
      (labelling_still m new from to differ (corner_at known.corners t) (unreached m new from to known differ right t was.1) labelling (right.labellings t labelling was.0));
  levels = λ x level is.
      let was = (left.levels x level).0 is in
      subst (λ (cs : List Corner). IsRimLevel new cs x level) (sym left.same_corners)
      (rim_level_still m new differ.same_side known.corners x level (λ q. still q level was.1) (right.levels x level was.0));
}

-- the remaining results are right after a height may have changed
pub noted_right : (m new : Mosaic) (h : NewHeight) (known known' : Known) → DifferAt m new h.point → IsSetFrom m new h.point h.was h.metres → IsNotedOf h known known'
    → ((t : ℕ) → IsEntered m (corner_at known.corners t) known.labellings t → IsEntered new (corner_at known.corners t) known'.labellings t)
    → ((x : ℕ) (level : ℤ) → level_of known.levels x ≡ Some level → IsRimLevel new known.corners x level) → IsRight m known → IsRight new known'
noted_right m new h known known' differ set_from left labellings levels right = record {
  ready = left_ready m new known known' differ.around.same_side differ.around.same_corners left.same_side left.same_corners left.whole
      (λ t ways is.
      let was = (left.loaded t ways).0 is in (
        was.0,
        elim was.1 [
          | inl out ↦ summary_unreached m new h.point h.point known differ.around right t ways was.0 out
          | inr (place, still) ↦ summarizes_below m new h.point differ known.side right.ready.same_side (corner_at known.corners t) still.index still.point h.was h.metres set_from still.labelling (right.labellings t still.labelling still.held) still.below
              ways.summary (right.ready.tiles.places t ways was.0) (right.ready.tiles.summaries t ways was.0)
        ],
      )) right;
  labellings = λ t. subst (λ (cs : List Corner). IsEntered new (corner_at cs t) known'.labellings t) (sym left.same_corners) (labellings t (right.labellings t));
  levels = λ x level at. subst (λ (cs : List Corner). IsRimLevel new cs x level) (sym left.same_corners) (levels x level (ap (λ (l : List (Option ℤ)). level_of l x) (sym left.same_levels) ∙ at));
}

-- ---- elements dropped one by one

module _ {A : Type 0} (Stays : ℕ → Type 0) (before : List (Option A)) where
  -- of the first k elements exactly those that don't satisfy `Stays` are dropped; all others stay
  pub record AreGivenUp (k : ℕ) (now : List (Option A)) : Type 0 where
    pub whole : length now ≡ length before
    pub left : (u : ℕ) (x : A) → get_or now u None ≡ Some x ↔ ((get_or before u None ≡ Some x) × (u < k → Stays u))

  pub one_spared : (k : ℕ) (now : List (Option A)) → Stays k → AreGivenUp k now → AreGivenUp (k + 1) now
  one_spared k now spared so = record {
    whole = so.whole;
    left = λ u x. (
      λ is.
          let was = (so.left u x).0 is in
          let later : u < k + 1 → Stays u = λ below. elim (cases_eq u k) [
            | inl here ↦ subst Stays (sym here) spared
            | inr other ↦ was.1 (omega arith)
          ] in
          (was.0, later),
      λ was. (so.left u x).1 (was.0, λ below. was.1 (omega arith)),
    );
  }

  pub one_given_up : (k : ℕ) (now : List (Option A)) → k < length now → (Stays k → ⊥) → AreGivenUp k now → AreGivenUp (k + 1) (slice_set now k None)
  one_given_up k now inside given_up so = record {
    whole = length-set now k None ∙ so.whole;
    left = λ u x. (
      λ is. elim (cases_eq u k) [
        | inl here ↦ absurd (none_is x (sym (get_or-set_same now k None None inside) ∙ (ap (λ v. get_or (slice_set now k None) v None) (sym here) ∙ is)))
        | inr other ↦
            let was = (so.left u x).0 (sym (get_or-set_other now k u None None other) ∙ is) in
            (was.0, λ below. was.1 (omega arith))
      ],
      λ was. elim (cases_eq u k) [
        | inl here ↦ absurd (given_up (subst Stays here (was.1 (omega arith))))
        | inr other ↦ get_or-set_other now k u None None other ∙ (so.left u x).1 (was.0, λ below. was.1 (omega arith))
      ],
    );
  }

  pub all_given_up : (now : List (Option A)) (k : ℕ) → length now ≤ k → AreGivenUp k now → (u : ℕ) (x : A) → get_or now u None ≡ Some x ↔ ((get_or before u None ≡ Some x) × Stays u)
  all_given_up now k whole so u x = (
    λ is.
        let was = (so.left u x).0 is in
        let below = below_some now u x is in
        (was.0, was.1 (omega arith)),
    λ was. (so.left u x).1 (was.0, λ below. was.1),
  )
    where
      below_some : (xs : List (Option A)) (v : ℕ) (y : A) → get_or xs v None ≡ Some y → v < length xs
      below_some [] v y e = absurd (none_is y e)
      below_some (o ∷ rest) zero y e = omega arith
      below_some (o ∷ rest) (suc v) y e = let later = below_some rest v y e in omega arith
