-- Boxes point by point, and the void points in them.
use Rattle.std.proofs.Common.{◌≡◌, ℕ, ◌+◌, ◌*◌, ◌/◌, ◌%◌, ◌<◌, ℤ, pos, ◌+ℤ◌, ◌-ℤ◌, nat_abs, Bool, true, false, ◌&&◌, ◌||◌, inl, inr, refl, sym, ◌∙◌, ap, ap₂, subst, arith}
use Rattle.edits.proofs.Prelude.{Height, Mosaic, Point, height_of, int_le, ints, is_in_box, is_void_at, is_void_height, nat_lt, same_point, same_point_from, same_point_says}
use Rattle.std.proofs.lemmas.Bool.{and_from, and_parts, and_right, both_ways, cases_Bool, false_from_ne_true, lt-ltb, ltb-true}
use Rattle.std.proofs.lemmas.Nat.{div-add-mod', div-mul-add, div_below, mod-mul-add, mul-add-lt}
use Rattle.std.proofs.Math.Bool.{and-or_distrib_right}
use Rattle.edits.specs.Boxes.{ArePointsOf, box_place, box_point, is_among}
use Rattle.edits.specs.declared.boxes.BoxPoints.{BoxPoints}

-- ---- along one axis

steps_to : (a v : ℤ) → int_le a v ≡ true → a +ℤ pos (nat_abs (v -ℤ a)) ≡ v
steps_to a v from = grind (arith, ints)

steps_below : (a v t : ℤ) (k : ℕ) → int_le a v ≡ true → int_le v t ≡ true → t +ℤ pos 1 ≡ a +ℤ pos k → nat_abs (v -ℤ a) < k
steps_below a v t k from to end = grind (arith, ints)

steps_of : (a : ℤ) (i : ℕ) → nat_abs ((a +ℤ pos i) -ℤ a) ≡ i
steps_of a i = grind (arith, ints)

along : (a t : ℤ) (i k : ℕ) → t +ℤ pos 1 ≡ a +ℤ pos k → i < k → (int_le a (a +ℤ pos i) && int_le (a +ℤ pos i) t) ≡ true
along a t i k end below = grind (arith, ints)

-- ---- a point and its number

module _ (from to : Point) (points : BoxPoints) (are : ArePointsOf from to points) where
  abbrev rows : ℕ
  rows = points.rows

  abbrev columns : ℕ
  columns = points.columns

  point_within : (k : ℕ) → k < rows * columns → is_in_box from to (box_point from columns k) ≡ true
  point_within k below =
      let column : k % columns < columns = omega (arith, points.some) in
      let y : ℤ = from.y +ℤ pos (k / columns) in
      let x : ℤ = from.x +ℤ pos (k % columns) in
      let north = and_parts (int_le from.y y) (int_le y to.y) (along from.y to.y (k / columns) rows are.rows (div_below k columns rows points.some below)) in
      let east = and_parts (int_le from.x x) (int_le x to.x) (along from.x to.x (k % columns) columns are.columns column) in
      and_from (int_le from.y y && int_le y to.y && int_le from.x x) (int_le x to.x) (and_from (int_le from.y y && int_le y to.y) (int_le from.x x) (and_from (int_le from.y y) (int_le y to.y) north.0 north.1) east.0) east.1

  module _ (p : Point) (inside : is_in_box from to p ≡ true) where
    parts : ((int_le from.y p.y ≡ true) × (int_le p.y to.y ≡ true)) × ((int_le from.x p.x ≡ true) × (int_le p.x to.x ≡ true))
    parts =
        let east = and_parts (int_le from.y p.y && int_le p.y to.y && int_le from.x p.x) (int_le p.x to.x) inside in
        let west = and_parts (int_le from.y p.y && int_le p.y to.y) (int_le from.x p.x) east.0 in
        (and_parts (int_le from.y p.y) (int_le p.y to.y) west.0, (west.1, east.1))

    column : nat_abs (p.x -ℤ from.x) < columns
    column = steps_below from.x p.x to.x columns parts.1.0 parts.1.1 are.columns

    place_below : box_place from columns p < rows * columns
    place_below = let less = mul-add-lt (nat_abs (p.y -ℤ from.y)) columns (nat_abs (p.x -ℤ from.x)) rows (steps_below from.y p.y to.y rows parts.0.0 parts.0.1 are.rows) column in omega (arith, less)

    point_is : box_point from columns (box_place from columns p) ≡ p
    point_is = ap₂ (λ (a b : ℤ). record { y = a; x = b })
        (ap (λ (i : ℕ). from.y +ℤ pos i) (div-mul-add (nat_abs (p.y -ℤ from.y)) columns (nat_abs (p.x -ℤ from.x)) column) ∙ steps_to from.y p.y parts.0.0)
        (ap (λ (i : ℕ). from.x +ℤ pos i) (mod-mul-add (nat_abs (p.y -ℤ from.y)) columns (nat_abs (p.x -ℤ from.x)) column) ∙ steps_to from.x p.x parts.1.0)

  place_is : (k : ℕ) → box_place from columns (box_point from columns k) ≡ k
  place_is k = ap₂ (λ (i j : ℕ). i * columns + j) (steps_of from.y (k / columns)) (steps_of from.x (k % columns)) ∙ div-add-mod' k columns

  -- ---- one point more

  pub among_none : (q : Point) → is_among from to columns 0 q ≡ false
  among_none q =
      and_right (is_in_box from to q) (nat_lt (box_place from columns q) 0) (false_from_ne_true (nat_lt (box_place from columns q) 0) (λ less. let below = ltb-true (box_place from columns q) 0 less in omega (arith, below)))

  pub among_all : (q : Point) → is_among from to columns (rows * columns) q ≡ is_in_box from to q
  among_all q = elim (cases_Bool (is_in_box from to q)) [
    | inl inside ↦ and_from (is_in_box from to q) (nat_lt (box_place from columns q) (rows * columns)) inside (lt-ltb (box_place from columns q) (rows * columns) (place_below q inside)) ∙ sym inside
    | inr out ↦ ap (λ (b : Bool). b && nat_lt (box_place from columns q) (rows * columns)) out ∙ sym out
  ]

  module _ (p : Point) (k : ℕ) (below : k < rows * columns) (is : p ≡ box_point points.from columns k) where
    at : p ≡ box_point from columns k
    at = is ∙ ap (λ (q : Point). box_point q columns k) are.first

    pub inside_at : is_in_box from to p ≡ true
    inside_at = subst (λ (q : Point). is_in_box from to q ≡ true) (sym at) (point_within k below)

    number : (q : Point) → same_point q p ≡ true → box_place from columns q ≡ k
    number q same = ap (box_place from columns) (same_point_says q p same ∙ at) ∙ place_is k

    pub among_more : (q : Point) → is_among from to columns (k + 1) q ≡ (is_among from to columns k q || same_point q p)
    among_more q = elim (cases_Bool (is_in_box from to q)) [
      | inl inside ↦
          let place : ℕ = box_place from columns q in
          ap (λ (b : Bool). b && nat_lt place (k + 1)) inside ∙ next place k (same_point q p) (number q) (λ same. same_point_from q p (sym (point_is q inside) ∙ ap (box_point from columns) same ∙ sym at))
          ∙ sym (ap (λ (b : Bool). (b && nat_lt place k) || same_point q p) inside)
      | inr out ↦
          let other : same_point q p ≡ false = false_from_ne_true (same_point q p) (λ same. both_ways (is_in_box from to q) out (subst (λ (r : Point). is_in_box from to r ≡ true) (sym (same_point_says q p same)) inside_at)) in
          ap (λ (b : Bool). b && nat_lt (box_place from columns q) (k + 1)) out ∙ sym (ap₂ (λ (a b : Bool). (a && nat_lt (box_place from columns q) k) || b) out other)
    ]
      where
        next : (place k : ℕ) (same : Bool) → (same ≡ true → place ≡ k) → (place ≡ k → same ≡ true) → nat_lt place (k + 1) ≡ (nat_lt place k || same)
        next place k true is same = grind (arith, is refl)
        next place k false is same = grind (arith, same)

    pub not_among : (q : Point) → is_among from to columns k q ≡ true → same_point q p ≡ true → ⊥
    not_among q before same =
        let less = ltb-true (box_place from columns q) k (and_parts (is_in_box from to q) (nat_lt (box_place from columns q) k) before).1 in
        omega (arith, less, number q same)

    -- the points so far that pass a test, with one more point
    pub among_with : (test : Point → Bool) (q : Point) → (is_among from to columns (k + 1) q && test q) ≡ ((is_among from to columns k q && test q) || (same_point q p && test q))
    among_with test q = ap (λ b. b && test q) (among_more q) ∙ and-or_distrib_right (is_among from to columns k q) (same_point q p) (test q)

-- ---- a single point

pub alone : (test : Point → Bool) (p : Point) (b : Bool) → test p ≡ b → (q : Point) → (same_point q p && test q) ≡ (same_point q p && b)
alone test p b is q = by (same_point q p) refl
  where
    by : (s : Bool) → same_point q p ≡ s → (s && test q) ≡ (s && b)
    by true same = ap test (same_point_says q p same) ∙ is
    by false other = refl

pub void_is : (m : Mosaic) (p : Point) (b : Bool) → is_void_at m p ≡ b → (q : Point) → (same_point q p && is_void_at m q) ≡ (same_point q p && b)
void_is m p b is q = alone (is_void_at m) p b is q

pub not_void_is : (m : Mosaic) (p : Point) (h : Height) → height_of m p ≡ h → is_void_height h ≡ false → (q : Point) → (same_point q p && is_void_at m q) ≡ false
not_void_is m p h e none q = void_is m p false (ap is_void_height e ∙ none) q ∙ and_right (same_point q p) false refl
