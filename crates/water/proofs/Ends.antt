-- Whether a point has a lower neighbour, is an outlet, or lies inside a flat.
use Rattle.water.specs.Drainage.{CrossesFlat, HasLower, IsLower}
use Rattle.lattice.specs.declared.direction.Dir.{Dir}
use Rattle.water.specs.Grid.{IsStepped}
use Rattle.std.proofs.Common.{IsTrue, ℤ, arith, inl, inr, int_lt, subst, sym, true≢false, ⊎_elim, ◌<◌, ◌∙◌, ◌≡◌, ◌⊎◌}
use Rattle.lattice.specs.declared.point.Point.{Point}
use Rattle.lattice.specs.Terrain.{Terrain}
use Rattle.std.proofs.lemmas.Bool.{cases_Bool}
use Rattle.std.proofs.lemmas.Int.{ints}
use Rattle.lattice.proofs.IntTests.{lt_false, lt_true}
use Rattle.lattice.specs.Steps.{step}
use Rattle.water.proofs.Compass.{first_dir}

module _ (t : Terrain Point) (level : Point → ℤ) (is : IsStepped t) where
  pub decide_lower : (x y : Point) → IsLower t level x y ⊎ (IsLower t level x y → ⊥)
  decide_lower x y = elim (cases_Bool (t.is_adjacent x y)) [
    | inl on ↦ elim (cases_Bool (int_lt (level y) (level x))) [
      | inl below ↦ inl (record { beside = on; below = lt_true (level y) (level x) below })
      | inr not ↦ inr (λ h. let lt = h.below in let ge = lt_false (level y) (level x) not in absurd (omega (arith, ints)))
    ]
    | inr off ↦ inr (λ h. true≢false (sym h.beside ∙ off))
  ]

  decide_has_lower : (x : Point) → HasLower t level x ⊎ (HasLower t level x → ⊥)
  decide_has_lower x = ⊎_elim
      (λ found. inl (step found.0 x, found.1.has))
      (λ none. inr (λ low. let way = is.steps x low.0 low.1.beside in none way.0 (subst (IsLower t level x) way.1 low.1)))
      (first_dir (λ d. IsLower t level x (step d x)) (λ d. decide_lower x (step d x)))

  -- the point drains down or off the mosaic, or it lies inside a flat
  pub end_or_inside : (x : Point) → CrossesFlat t level x 0 ⊎ (CrossesFlat t level x 0 → ⊥)
  end_or_inside x = ⊎_elim
      (λ low. inl (inl low))
      (λ none. elim (cases_Bool (t.is_outlet x)) [
        | inl out ↦ inl (inr out)
        | inr not ↦ inr (λ end. ⊎_elim none (λ out. true≢false (sym out ∙ not)) end)
      ])
      (decide_has_lower x)
