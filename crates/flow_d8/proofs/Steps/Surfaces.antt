-- Which points have a level in a list of levels.
use Rattle.flow_d8.proofs.Prelude.{AreLevels, Filled, IsTrue, Point, ap, arith, cases_Bool, false, get_or_past, inl, inr, is_held, is_void, length, not, refl, slice_index_or, sym, true, true≢false, void, ◌∙◌, ◌≡◌, ◌≤◌}
use Rattle.flow_d8.specs.Surface.{number_in, level_at, has_level}
use Rattle.flow_d8.proofs.Samples.Numbers.{number_past}

module _ (f : Filled) where
  -- only points that some tile holds have a level
  pub level_held : AreLevels f → (p : Point) → IsTrue (has_level f p) → IsTrue (is_held f.side f.corners p)
  unfolding has_level level_at
  level_held whole p here = elim (cases_Bool (is_held f.side f.corners p)) [
    | inl on ↦ on
    | inr off ↦
        let past : length f.levels ≤ number_in f p = omega (arith, number_past f.side f.corners p off, whole.whole) in
        let out : slice_index_or f.levels (number_in f p) void ≡ void = get_or_past f.levels (number_in f p) void past in
        absurd (true≢false (sym here ∙ ap (λ v. not (is_void v)) out))
  ]

  pub at_level : (p : Point) → slice_index_or f.levels (number_in f p) void ≡ level_at f p
  unfolding level_at
  at_level p = refl
