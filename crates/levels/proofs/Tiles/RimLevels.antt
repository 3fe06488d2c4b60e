-- The filled levels of a tile's rim points, computed one after another.
use Rattle.std.proofs.Common.{◌≡◌, ℕ, ◌+◌, ◌*◌, ◌-◌, ◌<◌, ℤ, IsTrue, IsFalse, Option, Some, None, List, [], ◌∷◌, ◌++◌, length, get_or, inl, inr, refl, sym, ap, ◌∙◌, subst, arith, true≢false}
use Rattle.levels.proofs.Prelude.{AreRimLevels, AreRimLevelsTo, Corner, IsFilledLevel, IsLevelOrVoid, IsMosaic, IsRimPoint, MatchOption, Mosaic, Point, cases_eq, get_or-append-add, get_or_append_left, is_ground, is_rim, length-append, level_ground, point_of, rim_number, slice_index_or, terrain, void}
use Rattle.lattice.proofs.RimNumbers.{one_index, number_below}

pub level_or_void_is : (m : Mosaic) (p : Point) (found : Option ℤ) (level : ℤ) → MatchOption found (level ≡ void) (λ l. level ≡ l) → MatchOption found (IsFalse (is_ground m p)) (λ l. IsFilledLevel (terrain m) p l) → IsLevelOrVoid m p level
level_or_void_is m p (Some l) level same filled = record {
  on_ground = λ _. subst (IsFilledLevel (terrain m) p) (sym same) filled;
  elsewhere = λ off. absurd (true≢false (sym (level_ground m p l filled) ∙ off));
}
level_or_void_is m p None level same off = record {
  on_ground = λ solid. absurd (true≢false (sym solid ∙ off));
  elsewhere = λ _. same;
}

-- the last element of a list that grew by one
last_of : (old new : List ℤ) (k : ℕ) (level : ℤ) → new ≡ old ++ level ∷ [] → length old ≡ k → get_or new k void ≡ level
last_of old new k level is whole =
    let end : k ≡ length old + 0 = omega (arith, whole) in
    ap (λ (l : List ℤ). get_or l k void) is ∙ (ap (λ i. get_or (old ++ level ∷ []) i void) end ∙ get_or-append-add old (level ∷ []) 0 void)

earlier_of : (old more new : List ℤ) (k j : ℕ) → new ≡ old ++ more → length old ≡ k → j < k → get_or new j void ≡ get_or old j void
earlier_of old more new k j is whole below = ap (λ (l : List ℤ). get_or l j void) is ∙ get_or_append_left old more void j (omega (arith, whole))

-- the rim levels of one tile
module _ (m : Mosaic) (is : IsMosaic m) (c : Corner) where
  pub no_rim : AreRimLevelsTo m c 0 []
  no_rim = record { whole = refl; each = λ k e below. absurd (omega arith) }

  -- the rim's levels so far, with one more
  pub rim_more : (old new : List ℤ) (k e : ℕ) (level : ℤ) → new ≡ old ++ level ∷ [] → IsRimPoint m.side k e → IsLevelOrVoid m (point_of m.side c e) level → AreRimLevelsTo m c k old → AreRimLevelsTo m c (k + 1) new
  rim_more old new k e level grown rim this are = record {
    whole = ap (λ (l : List ℤ). length l) grown ∙ (length-append old (level ∷ []) ∙ ap (λ i. i + 1) are.whole);
    each = λ j f below rim'. elim (cases_eq j k) [
      | inl same ↦
          let at : e ≡ f = one_index m.side k e f is.side_low rim (subst (λ i. IsRimPoint m.side i f) same rim') in
          let read : level ≡ get_or new j void = sym (ap (λ i. get_or new i void) same ∙ last_of old new k level grown are.whole) in
          subst (λ i. IsLevelOrVoid m (point_of m.side c i) (get_or new j void)) at (subst (IsLevelOrVoid m (point_of m.side c e)) read this)
      | inr other ↦
          let before : j < k = omega arith in
          subst (IsLevelOrVoid m (point_of m.side c f)) (sym (earlier_of old (level ∷ []) new k j grown are.whole before)) (are.each j f before rim')
    ];
  }

  pub rim_whole : (levels : List ℤ) → AreRimLevelsTo m c (4 * (m.side - 1)) levels → AreRimLevels m c levels
  rim_whole levels are = record {
    whole = are.whole;
    filled = λ e small rim solid. (at e small rim).on_ground solid;
    void_points = λ e small rim off. (at e small rim).elsewhere off;
  }
    where
      at : (e : ℕ) → e < m.side * m.side → IsTrue (is_rim m.side e) → IsLevelOrVoid m (point_of m.side c e) (slice_index_or levels (rim_number m.side e) void)
      at e small rim =
          let here : IsRimPoint m.side (rim_number m.side e) e = record { small = small; rim = rim; number = refl } in
          are.each (rim_number m.side e) e (number_below m.side (rim_number m.side e) e is.side_low here) here
