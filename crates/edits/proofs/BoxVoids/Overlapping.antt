-- A tile with a point of a box has one of the box's corners.
use Rattle.std.proofs.Common.{◌≡◌, ℕ, ◌+◌, ◌-◌, ◌≤◌, ◌⊎◌, inl, inr, ℤ, pos, ◌+ℤ◌, ◌-ℤ◌, ◌*ℤ◌, Bool, true, false, ◌&&◌, refl, ap, ap₂, sym, ◌∙◌, subst, arith}
use Rattle.edits.proofs.Prelude.{Corner, Point, and_from, and_parts, holds_is, int_le, int_lt, ints, is_box, is_in_box}
use Rattle.lattice.specs.Lattice.{Holds, is_along}

module _ (m : ℕ) (corner : ℤ) (first last v : ℤ) where
  pub end_along : (int_le first v && int_le v last) ≡ true → int_lt (last -ℤ first) (pos (m + 1)) ≡ true → is_along (pos m) corner v ≡ true
      → (is_along (pos m) corner first ≡ true) ⊎ (is_along (pos m) corner last ≡ true)
  end_along within short along =
      let parts = and_parts (int_le first v) (int_le v last) within in
      let held = and_parts (int_le (corner *ℤ pos m) v) (int_le v (corner *ℤ pos m +ℤ pos m)) along in
      by (corner *ℤ pos m) (int_le (corner *ℤ pos m) first) refl parts.0 parts.1 held.0 held.1
    where
      by : (low : ℤ) (b : Bool) → int_le low first ≡ b → int_le first v ≡ true → int_le v last ≡ true → int_le low v ≡ true → int_le v (low +ℤ pos m) ≡ true
          → ((int_le low first && int_le first (low +ℤ pos m)) ≡ true) ⊎ ((int_le low last && int_le last (low +ℤ pos m)) ≡ true)
      by low true is p q r s = inl (and_from (int_le low first) (int_le first (low +ℤ pos m)) is (grind (arith, ints)))
      by low false is p q r s = inr (and_from (int_le low last) (int_le last (low +ℤ pos m)) (grind (arith, ints)) (grind (arith, ints)))

-- A box is shorter than a tile's side in both directions.
pub shorter_sides : (n : ℕ) (from to : Point) → is_box n from to ≡ true → (int_lt (to.y -ℤ from.y) (pos n) ≡ true) × (int_lt (to.x -ℤ from.x) (pos n) ≡ true)
shorter_sides n from to box_ =
    let last = and_parts (int_le from.y to.y && int_le from.x to.x && int_lt (to.y -ℤ from.y) (pos n)) (int_lt (to.x -ℤ from.x) (pos n)) box_ in
    let rest = and_parts (int_le from.y to.y && int_le from.x to.x) (int_lt (to.y -ℤ from.y) (pos n)) last.0 in
    (rest.1, last.1)

module _ (n : ℕ) (side : 3 ≤ n) (from to : Point) (box_ : is_box n from to ≡ true) (c : Corner) (p : Point) where
  pub some_corner : is_in_box from to p ≡ true → Holds n c p →
      (Holds n c from ⊎ Holds n c (record { y = from.y; x = to.x })) ⊎ (Holds n c (record { y = to.y; x = from.x }) ⊎ Holds n c to)
  some_corner within held = by (end_along (n - 1) c.lat from.y to.y p.y rows short_y along.0) (end_along (n - 1) c.lon from.x to.x p.x columns short_x along.1)
    where
      in_box : ((int_le from.y p.y && int_le p.y to.y) ≡ true) × ((int_le from.x p.x && int_le p.x to.x) ≡ true)
      in_box =
          let last = and_parts (int_le from.y p.y && int_le p.y to.y && int_le from.x p.x) (int_le p.x to.x) within in
          let rest = and_parts (int_le from.y p.y && int_le p.y to.y) (int_le from.x p.x) last.0 in
          (rest.0, and_from (int_le from.x p.x) (int_le p.x to.x) rest.1 last.1)

      rows : (int_le from.y p.y && int_le p.y to.y) ≡ true
      rows = in_box.0

      columns : (int_le from.x p.x && int_le p.x to.x) ≡ true
      columns = in_box.1

      is_n : n - 1 + 1 ≡ n
      is_n = omega arith

      short_y : int_lt (to.y -ℤ from.y) (pos (n - 1 + 1)) ≡ true
      short_y = ap (λ k. int_lt (to.y -ℤ from.y) (pos k)) is_n ∙ (shorter_sides n from to box_).0

      short_x : int_lt (to.x -ℤ from.x) (pos (n - 1 + 1)) ≡ true
      short_x = ap (λ k. int_lt (to.x -ℤ from.x) (pos k)) is_n ∙ (shorter_sides n from to box_).1

      along : (is_along (pos (n - 1)) c.lat p.y ≡ true) × (is_along (pos (n - 1)) c.lon p.x ≡ true)
      along = and_parts (is_along (pos (n - 1)) c.lat p.y) (is_along (pos (n - 1)) c.lon p.x) ((holds_is n c p side held.corner).1 held)

      at : (q : Point) → is_along (pos (n - 1)) c.lat q.y ≡ true → is_along (pos (n - 1)) c.lon q.x ≡ true → Holds n c q
      at q y x = (holds_is n c q side held.corner).0 (and_from (is_along (pos (n - 1)) c.lat q.y) (is_along (pos (n - 1)) c.lon q.x) y x)

      by : (is_along (pos (n - 1)) c.lat from.y ≡ true) ⊎ (is_along (pos (n - 1)) c.lat to.y ≡ true) → (is_along (pos (n - 1)) c.lon from.x ≡ true) ⊎ (is_along (pos (n - 1)) c.lon to.x ≡ true) →
          (Holds n c from ⊎ Holds n c (record { y = from.y; x = to.x })) ⊎ (Holds n c (record { y = to.y; x = from.x }) ⊎ Holds n c to)
      by (inl y) (inl x) = inl (inl (at from y x))
      by (inl y) (inr x) = inl (inr (at (record { y = from.y; x = to.x }) y x))
      by (inr y) (inl x) = inr (inl (at (record { y = to.y; x = from.x }) y x))
      by (inr y) (inr x) = inr (inr (at to y x))

pub held_as : (n : ℕ) (c : Corner) (y y2 x x2 : ℤ) → y2 ≡ y → x2 ≡ x → Holds n c (record { y = y; x = x }) → Holds n c (record { y = y2; x = x2 })
held_as n c y y2 x x2 at_y at_x held = subst (λ (q : Point). Holds n c q) (ap₂ (λ (a b : ℤ). record { y = a; x = b }) (sym at_y) (sym at_x)) held
