-- The codes of a tile's samples, listed one after another.
use Rattle.drainage.proofs.Prelude.{AreCodesTo, Corner, Flow, IsCodeOrNone, IsMosaic, IsToldOf, List, Mosaic, NoGround, OnLevels, Point, ℕ, [], ap, arith, cases_eq, direction_of, get_or, get_or-append-add, get_or_append_left, inl, inr, length, length-append, point_of, refl, subst, sym, terrain, true≢false, ◌++◌, ◌+◌, ◌<◌, ◌∙◌, ◌∷◌, ◌≡◌}
use Rattle.drainage.specs.WholeTiles.{code_told}
use Rattle.drainage.proofs.Questions.LevelFunctions.{level_function}

module _ (m : Mosaic) (is : IsMosaic m) where
  pub told_code : (p : Point) (flow : Flow) → OnLevels m (λ level. IsToldOf (terrain m) level p flow) → IsCodeOrNone m p (code_told flow)
  told_code p NoGround told = record {
    on_ground = λ solid level filled. absurd (true≢false (sym solid ∙ (told level filled).elsewhere.0 refl));
    elsewhere = λ _. refl;
  }
  told_code p flow told = record {
    on_ground = λ solid level filled. (direction_of flow, ((told level filled).on_ground solid, refl));
    elsewhere = λ off.
        let some = level_function m is in
        let none : flow ≡ NoGround = (told some.0 some.1).elsewhere.1 off in
        absurd (cc);
  }

  module _ (c : Corner) where
    -- the list is right with one more code
    pub code_more : (old new : List ℕ) (k code : ℕ) → new ≡ old ++ code ∷ [] → IsCodeOrNone m (point_of m.side c k) code → AreCodesTo m c k old → AreCodesTo m c (k + 1) new
    code_more old new k code grown this are = record {
      whole = ap (λ (l : List ℕ). length l) grown ∙ (length-append old (code ∷ []) ∙ ap (λ i. i + 1) are.whole);
      each = λ e below. elim (cases_eq e k) [
        | inl same ↦
            let end : k ≡ length old + 0 = omega (arith, are.whole) in
            let read : get_or new k 0 ≡ code = ap (λ (l : List ℕ). get_or l k 0) grown ∙ (ap (λ i. get_or (old ++ code ∷ []) i 0) end ∙ get_or-append-add old (code ∷ []) 0 0) in
            subst (λ i. IsCodeOrNone m (point_of m.side c i) (get_or new i 0)) (sym same) (subst (IsCodeOrNone m (point_of m.side c k)) (sym read) this)
        | inr other ↦
            let before : e < k = omega arith in
            let read : get_or new e 0 ≡ get_or old e 0 = ap (λ (l : List ℕ). get_or l e 0) grown ∙ get_or_append_left old (code ∷ []) 0 e (omega (arith, are.whole)) in
            subst (IsCodeOrNone m (point_of m.side c e)) (sym read) (are.each e before)
      ];
    }
