-- The steepest step down, found by trying one direction after another.
use Rattle.std.proofs.Common.{rules}
use Rattle.flow_d8.proofs.Prelude.{HasLower, IsFalse, IsLevelGrid, IsLower, IsSteepestOf, IsTrue, LeadsDown, ℕ, ℤ, ap, arith, inl, inr, ints, level_beside, nat_abs, slope_in, subst, sym, ◌+◌, ◌-ℤ◌, ◌<ℤ◌, ◌<◌, ◌∙◌, ◌≡◌, ◌≤ℤ◌, ◌≤◌, ◌⊎◌}
use Rattle.std.proofs.lemmas.Bool.{cases_Bool, cond-true, cond-false}
use Rattle.flow_d8.specs.Prelude.{Point, Dir, step, order_of, slope_of, Terrain, void}
use Rattle.water.proofs.SteepestStep.{taken, left}

module _ (t : Terrain Point) (level : Point → ℤ) (p : Point) where
  pub beside_there : (d : Dir) → IsTrue (t.is_adjacent p (step d p)) → level_beside t level p d ≡ level (step d p)
  beside_there d on = cond-true (t.is_adjacent p (step d p)) (level (step d p)) void on

  beside_none : (d : Dir) → IsFalse (t.is_adjacent p (step d p)) → level_beside t level p d ≡ void
  beside_none d off = cond-false (t.is_adjacent p (step d p)) (level (step d p)) void off

  module _ (levelled : IsLevelGrid t level) where
    pub beside_void : (d : Dir) → level_beside t level p d ≡ void → IsFalse (t.is_adjacent p (step d p))
    beside_void d none = elim (cases_Bool (t.is_adjacent p (step d p))) [
      | inl on ↦ absurd (levelled.some (step d p) (levelled.lawful.to_ground p (step d p) on) (sym (beside_there d on) ∙ none))
      | inr off ↦ off
    ]

    pub beside_level : (d : Dir) → (level_beside t level p d ≡ void → ⊥) → IsTrue (t.is_adjacent p (step d p))
    beside_level d some = elim (cases_Bool (t.is_adjacent p (step d p))) [ inl on ↦ on | inr off ↦ absurd (some (beside_none d off)) ]

    module _ (high : (d : Dir) → level p ≤ℤ level_beside t level p d) where
      pub none_lower : HasLower t level p → ⊥
      none_lower low =
          let away = levelled.steps p low.0 low.1.beside in
          let down : LeadsDown t level p away.0 = subst (λ y. IsLower t level p y) away.1 low.1 in
          let less = subst (λ v. level p ≤ℤ v) (beside_there away.0 down.beside) (high away.0) in
          omega (arith, ints, down.below, less)

      pub all_beside : void <ℤ level p → (d : Dir) → IsTrue (t.is_adjacent p (step d p))
      all_beside some d = beside_level d (λ none. let less = subst (λ v. level p ≤ℤ v) none (high d) in omega (arith, ints, some, less))

    module _ (d : Dir) (beside height : ℤ) (shown : beside ≡ level_beside t level p d) (here : level p ≡ height) (slope : ℕ)
        (none : (beside ≡ void) ⊎ (height ≤ℤ beside) → slope ≡ 0) (some : (beside ≡ void → ⊥) → beside <ℤ height → slope ≡ slope_of d (nat_abs (height -ℤ beside))) where
      slope_down : LeadsDown t level p d → slope ≡ slope_in t level p d
      slope_down low =
          let there : beside ≡ level (step d p) = shown ∙ beside_there d low.beside in
          let solid = levelled.lawful.to_ground p (step d p) low.beside in
          let below : beside <ℤ height = subst (λ v. v <ℤ height) (sym there) (subst (λ v. level (step d p) <ℤ v) here low.below) in
          some (λ nothing. levelled.some (step d p) solid (sym there ∙ nothing)) below
          ∙ ap (λ v. slope_of d (nat_abs (v -ℤ beside))) (sym here) ∙ ap (λ v. slope_of d (nat_abs (level p -ℤ v))) there

      down_slope : 0 < slope → LeadsDown t level p d
      down_slope much = search rules

      module _ (best : ℕ) (way : Dir) (is : IsSteepestOf t level p (order_of d) best way) where
        pub taken_shown : best < slope → IsSteepestOf t level p (order_of d + 1) slope d
        taken_shown more = taken t level p d slope slope_down down_slope best way is more

        pub left_shown : slope ≤ best → IsSteepestOf t level p (order_of d + 1) best way
        left_shown less = left t level p d slope slope_down down_slope best way is less
