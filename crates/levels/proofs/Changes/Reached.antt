-- A change of one point leaves all other points unchanged.
use Rattle.levels.proofs.Prelude.{DifferBetween, List, Mosaic, Point, ℤ, [], ap, ap₂, arith, cond, false, int_le, ints, is_between, le_from, le_true, list_any, refl, same_point, sym, true, with_point, with_sinks, without_point, ◌&&◌, ◌||◌, ◌∙◌, ◌∷◌, ◌≡◌}
use Rattle.std.proofs.lemmas.Bool.{and_parts, and_from, or_right, false_from_ne_true, both_ways}
use Rattle.lattice.specs.Points.{is_point_before}
use Rattle.lattice.proofs.SamePoints.{same_point_says, same_point_from}
use Rattle.edits.proofs.FreshSinks.{any_with, any_without}

-- ---- the box of one point

module _ (from to p : Point) where
  pub between_parts : is_between from to p ≡ true → (int_le from.y p.y ≡ true) × ((int_le p.y to.y ≡ true) × ((int_le from.x p.x ≡ true) × (int_le p.x to.x ≡ true)))
  between_parts within =
      let three = and_parts (int_le from.y p.y && int_le p.y to.y && int_le from.x p.x) (int_le p.x to.x) within in
      let two = and_parts (int_le from.y p.y && int_le p.y to.y) (int_le from.x p.x) three.0 in
      let one = and_parts (int_le from.y p.y) (int_le p.y to.y) two.0 in
      (one.0, (one.1, (two.1, three.1)))

  pub between_from : int_le from.y p.y ≡ true → int_le p.y to.y ≡ true → int_le from.x p.x ≡ true → int_le p.x to.x ≡ true → is_between from to p ≡ true
  between_from south north west east =
      and_from (int_le from.y p.y && int_le p.y to.y && int_le from.x p.x) (int_le p.x to.x)
      (and_from (int_le from.y p.y && int_le p.y to.y) (int_le from.x p.x) (and_from (int_le from.y p.y) (int_le p.y to.y) south north) west) east

pub between_itself : (p q : Point) → is_between p p q ≡ true → p ≡ q
between_itself p q within =
    let parts = between_parts p p q within in
    let south = le_true p.y q.y parts.0 in
    let north = le_true q.y p.y parts.1.0 in
    let west = le_true p.x q.x parts.1.1.0 in
    let east = le_true q.x p.x parts.1.1.1 in
    let y : p.y ≡ q.y = omega (arith, ints) in
    let x : p.x ≡ q.x = omega (arith, ints) in
    ap₂ (λ (a b : ℤ). record { y = a; x = b }) y x

pub at_itself : (p : Point) → is_between p p p ≡ true
at_itself p = between_from p p p (le_from p.y p.y (omega (arith, ints))) (le_from p.y p.y (omega (arith, ints))) (le_from p.x p.x (omega (arith, ints))) (le_from p.x p.x (omega (arith, ints)))

-- a point outside the box of p isn't p
pub other_point : (p q : Point) → is_between p p q ≡ false → p ≡ q → ⊥
other_point p q out same = both_ways (is_between p p q) out (ap (is_between p p) (sym same) ∙ at_itself p)

-- ---- a sink is declared or removed

pub apart_points : (p q : Point) → (p ≡ q → ⊥) → same_point p q ≡ false
apart_points p q apart = false_from_ne_true (same_point p q) (λ same. apart (same_point_says p q same))

-- the point is in the list with p added
pub own_with : (p : Point) (points : List Point) → list_any (λ s. same_point s p) (with_point p points) ≡ true
own_with p [] = ap (λ b. b || false) (same_point_from p p refl)
own_with p (r ∷ rest) = elim (is_point_before p r) as (λ b. list_any (λ s. same_point s p) (cond b (p ∷ (r ∷ rest)) (r ∷ with_point p rest)) ≡ true) [
  | true ↦ ap (λ b. b || list_any (λ s. same_point s p) (r ∷ rest)) (same_point_from p p refl)
  | false ↦ or_right (same_point r p) (list_any (λ s. same_point s p) (with_point p rest)) (own_with p rest)
]

module _ (m : Mosaic) (p : Point) where
  pub differ_with : DifferBetween m (with_sinks (with_point p m.sinks) m) p p
  differ_with = record {
    same_side = refl;
    same_corners = refl;
    heights = λ q out. refl;
    sinks = λ q out. any_with (λ s. same_point s q) p m.sinks (apart_points p q (other_point p q out));
  }

  pub differ_without : DifferBetween m (with_sinks (without_point p m.sinks) m) p p
  differ_without = record {
    same_side = refl;
    same_corners = refl;
    heights = λ q out. refl;
    sinks = λ q out. any_without q p m.sinks (apart_points p q (other_point p q out));
  }

-- each mosaic differs from itself at no point
pub unmoved : (m : Mosaic) (from to : Point) → DifferBetween m m from to
unmoved m from to = record { same_side = refl; same_corners = refl; heights = λ p out. refl; sinks = λ p out. refl }
