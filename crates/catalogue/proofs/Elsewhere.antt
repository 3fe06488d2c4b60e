-- Points that a present tile other than the corner's has.
use Rattle.catalogue.proofs.Prelude.{Contains, Corner, Holds, IsMosaic, List, Mosaic, Point, ℕ, and_from, and_parts, ap, cases_Bool, corners_of, false, false_from_ne_true, false≢true, get_or, holds, holds_is, inl, inr, is_held_elsewhere, length, not, same_corner, same_says, subst, sym, true, ◌&&◌, ◌<◌, ◌∙◌, ◌≡◌}
use Rattle.catalogue.proofs.Presence.{any_from, any_says}
use Rattle.catalogue.proofs.OneTile.{corner_is}

module _ (m : Mosaic) (c : Corner) (p : Point) (valid : IsMosaic m) where
  pub elsewhere_from : (d : Corner) → Contains (corners_of m) d → same_corner d c ≡ false → Holds m.side d p → is_held_elsewhere m c p ≡ true
  elsewhere_from d there other held =
      any_from (λ e. not (same_corner e c) && holds m.side e p) m.tiles d there
      (and_from (not (same_corner d c)) (holds m.side d p) (ap not other) ((holds_is m.side d p valid.side_low held.corner).1 held))

  elsewhere_says : is_held_elsewhere m c p ≡ true → (d : Corner) × (Contains (corners_of m) d × (same_corner d c ≡ false) × Holds m.side d p)
  elsewhere_says some =
      let found = any_says (λ e. not (same_corner e c) && holds m.side e p) m.tiles some in
      let d = found.0 in
      let both = and_parts (not (same_corner d c)) (holds m.side d p) found.1.1 in
      let other = false_from_ne_true (same_corner d c) (λ same. false≢true (ap not (sym same) ∙ both.0)) in
      (d, (found.1.0, other, (holds_is m.side d p valid.side_low (corner_is m d valid found.1.0)).0 both.1))

  -- None of the corners whose tiles have the point is present, except this one.
  pub not_elsewhere : (cs : List Corner) → ((d : Corner) → Holds m.side d p → Contains cs d)
      → ((k : ℕ) (d : Corner) → k < length cs → same_corner (get_or cs k d) c ≡ false → Contains (corners_of m) (get_or cs k d) → ⊥) → is_held_elsewhere m c p ≡ false
  not_elsewhere cs holders none = false_from_ne_true (is_held_elsewhere m c p) (λ some.
      let found = elsewhere_says some in
      let d = found.0 in
      let at = holders d found.1.2 in
      none at.0 d at.1 (subst (λ e. same_corner e c ≡ false) (sym at.2) found.1.1) (subst (λ e. Contains (corners_of m) e) (sym at.2) found.1.0))

  -- Then only the corner's tile has the point.
  pub only_holder : is_held_elsewhere m c p ≡ false → (d : Corner) → Contains (corners_of m) d → Holds m.side d p → d ≡ c
  only_holder none d there held = elim (cases_Bool (same_corner d c)) [
    | inl same ↦ same_says d c same
    | inr other ↦ absurd (false≢true (sym none ∙ elsewhere_from d there other held))
  ]
