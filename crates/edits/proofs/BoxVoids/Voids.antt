-- Whether some point of a box is void.
use Rattle.edits.proofs.Prelude.{BadBox, Bool, Contains, Contains-get_or, Corner, List, Mosaic, Patch, Point, Tile, ℕ, ℤ, [], add-zero, and_from, and_left, and_right, ap, ap₂, arith, corners_of, effect, false, false≢true, get_or, get_or-map, has_void_from, inl, inr, ints, is_box, is_height, is_in_box, is_void_at, length, length-map, list_any, negsuc, or_cases, or_left, or_right, point_of, pos, refl, subst, suc, sym, true, zero, ◌&&◌, ◌+ℤ◌, ◌+◌, ◌<◌, ◌∙◌, ◌∷◌, ◌≡◌, ◌⊎◌}
use Rattle.std.specs.Prelude.{Err, int_le, int_lt, ◌-ℤ◌}

pub any_says : {X : Type 0} (f : X → Bool) (xs : List X) → list_any f xs ≡ true → (x : X) × (Contains xs x × (f x ≡ true))
any_says f [] e = absurd (false≢true e)
any_says f (x ∷ xs) e = by (or_cases (f x) (list_any f xs) e) (any_says f xs)
  where
    by : (f x ≡ true) ⊎ (list_any f xs ≡ true) → (list_any f xs ≡ true → (y : _) × (Contains xs y × (f y ≡ true))) → (y : _) × (Contains (x ∷ xs) y × (f y ≡ true))
    by (inl here) later = (x, ((0, omega arith, refl), here))
    by (inr there) later =
        let rest = later there in
        (rest.0, ((suc rest.1.0.0, omega arith, rest.1.0.2), rest.1.1))

pub any_from : {X : Type 0} (f : X → Bool) (xs : List X) (x : X) → Contains xs x → f x ≡ true → list_any f xs ≡ true
any_from f [] x (k, below, here) e = absurd (omega arith)
any_from f (y ∷ ys) x (zero, below, here) e = or_left (f y) (list_any f ys) (ap f here ∙ e)
any_from f (y ∷ ys) x (suc k, below, here) e = or_right (f y) (list_any f ys) (any_from f ys x (k, omega arith, here) e)

-- the tile of a present corner
pub tile_at : (m : Mosaic) (c : Corner) → Contains (corners_of m) c → (t : Tile) × (Contains m.tiles t × (t.corner ≡ c))
tile_at m c (k, below, here) =
    let none : Tile = record { corner = c; samples = [] } in
    let within : k < length m.tiles = omega (arith, length-map m.tiles (λ t. t.corner)) in
    (get_or m.tiles k none, (Contains-get_or m.tiles k none within, sym (get_or-map (λ t. t.corner) m.tiles k none c within) ∙ here))

module _ (m : Mosaic) (from to : Point) where
  abbrev pub is_void_within : Point → Bool
  is_void_within p = is_in_box from to p && is_void_at m p

  pub some_index : (c : Corner) (e : ℕ) (l : List ℤ) → has_void_from m from to c e l ≡ true → (k : ℕ) × ((k < length l) × (is_void_within (point_of m.side c (e + k)) ≡ true))
  some_index c e [] h = absurd (false≢true h)
  some_index c e (s ∷ rest) h = by (or_cases (is_void_within (point_of m.side c e)) (has_void_from m from to c (e + 1) rest) h) (some_index c (e + 1) rest)
    where
      Found : Type 0
      Found = (k : ℕ) × ((k < length (s ∷ rest)) × (is_void_within (point_of m.side c (e + k)) ≡ true))

      by : (is_void_within (point_of m.side c e) ≡ true) ⊎ (has_void_from m from to c (e + 1) rest ≡ true)
          → (has_void_from m from to c (e + 1) rest ≡ true → (k : ℕ) × ((k < length rest) × (is_void_within (point_of m.side c (e + 1 + k)) ≡ true))) → Found
      by (inl here) later = (0, (omega arith, ap (λ i. is_void_within (point_of m.side c i)) (add-zero e) ∙ here))
      by (inr there) later =
          let found = later there in
          let next : e + suc found.0 ≡ e + 1 + found.0 = omega arith in
          (suc found.0, (omega arith, ap (λ i. is_void_within (point_of m.side c i)) next ∙ found.1.1))

  pub at_index : (c : Corner) (e : ℕ) (l : List ℤ) (k : ℕ) → k < length l → is_void_within (point_of m.side c (e + k)) ≡ true → has_void_from m from to c e l ≡ true
  at_index c e [] k below h = absurd (omega arith)
  at_index c e (s ∷ rest) zero below h = or_left (is_void_within (point_of m.side c e)) (has_void_from m from to c (e + 1) rest) (ap (λ i. is_void_within (point_of m.side c i)) (sym (add-zero e)) ∙ h)
  at_index c e (s ∷ rest) (suc k) below h =
      let next : e + 1 + k ≡ e + suc k = omega arith in
      or_right (is_void_within (point_of m.side c e)) (has_void_from m from to c (e + 1) rest) (at_index c (e + 1) rest k (omega arith) (ap (λ i. is_void_within (point_of m.side c i)) next ∙ h))

abbrev pub is_span : ℕ → ℤ → ℤ → Bool
is_span n first last = int_le first last && int_lt (last -ℤ first) (pos n)

module _ (n : ℕ) (from to : Point) where
  spans : (is_span n from.y to.y && is_span n from.x to.x) ≡ is_box n from to
  spans = regroup (int_le from.y to.y) (int_lt (to.y -ℤ from.y) (pos n)) (int_le from.x to.x) (int_lt (to.x -ℤ from.x) (pos n))
    where
      regroup : (a b c d : Bool) → ((a && b) && (c && d)) ≡ (((a && c) && b) && d)
      regroup true true c d = elim c as (λ x. (x && d) ≡ ((x && true) && d)) [ true ↦ refl | false ↦ refl ]
      regroup true false c d = elim c as (λ x. false ≡ ((x && false) && d)) [ true ↦ refl | false ↦ refl ]
      regroup false b c d = refl

  pub box_from : is_span n from.y to.y ≡ true → is_span n from.x to.x ≡ true → is_box n from to ≡ true
  box_from rows columns = sym spans ∙ and_from (is_span n from.y to.y) (is_span n from.x to.x) rows columns

  pub no_rows : is_span n from.y to.y ≡ false → is_box n from to ≡ false
  no_rows none = sym spans ∙ and_left (is_span n from.y to.y) (is_span n from.x to.x) none

  pub no_columns : is_span n from.x to.x ≡ false → is_box n from to ≡ false
  no_columns none = sym spans ∙ and_right (is_span n from.y to.y) (is_span n from.x to.x) none

pub bad_box : (capacity : ℕ) (m : Mosaic) (from to : Point) (h : ℤ) → is_height h ≡ true → is_box m.side from to ≡ false → effect capacity m (Patch from to h) ≡ Err BadBox
bad_box capacity m from to h in_range none = rw (in_range, none) refl

-- the span of a box, for equal values
pub span_at : (n n2 : ℕ) (a a2 b b2 : ℤ) (v : Bool) → a2 ≡ a → b2 ≡ b → n2 ≡ n → is_span n2 a2 b2 ≡ v → is_span n a b ≡ v
span_at n n2 a a2 b b2 v p q r h = ap₂ (is_span n) (sym p) (sym q) ∙ ap (λ k. is_span k a2 b2) (sym r) ∙ h

pub count_at : (a a2 b b2 : ℤ) (k : ℕ) → a2 ≡ a → b2 ≡ b → b2 +ℤ pos 1 ≡ a2 +ℤ pos k → b +ℤ pos 1 ≡ a +ℤ pos k
count_at a a2 b b2 k p q h = ap (λ z. z +ℤ pos 1) (sym q) ∙ h ∙ ap (λ z. z +ℤ pos k) p

-- The height is in range, by the code's tests.
pub height_in : (h h2 : ℤ) → h2 ≡ h → int_lt h2 (negsuc 32766) ≡ false → int_lt (pos 32767) h2 ≡ false → is_height h ≡ true
height_in h h2 same not_low not_high =
    subst (λ z. is_height z ≡ true) same (and_from (int_le (negsuc 32766) h2) (int_le h2 (pos 32767)) (from_low h2 not_low) (from_high h2 not_high))
  where
    from_low : (z : ℤ) → int_lt z (negsuc 32766) ≡ false → int_le (negsuc 32766) z ≡ true
    from_low z e = grind (arith, ints)

    from_high : (z : ℤ) → int_lt (pos 32767) z ≡ false → int_le z (pos 32767) ≡ true
    from_high z e = grind (arith, ints)
