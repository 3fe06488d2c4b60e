-- The levels of a tile and around it, place by place.
use Rattle.drainage.proofs.Prelude.{All, ArePadded, AreTileLevels, Bool, Contains, IsLevelOrVoid, IsMosaic, IsTile, IsTrue, List, Mosaic, Strip, Tile, ℕ, ℤ, [], ap, ap₂, arith, cases_Bool, cases_eq, cases_lt, corners_of, drop, false, get_or-set_other, get_or-set_same, inl, inr, ints, is_present, length, length-set, list_any, one_column, one_row, or_cases, padded_point, place_in, point_of, present_iff, refl, same_place, slice_index_or, slice_set, subst, suc, sym, take, true, true≢false, void, zero, ⊎_elim, ◌%◌, ◌*◌, ◌++◌, ◌+◌, ◌-◌, ◌/◌, ◌<◌, ◌↔◌, ◌∙◌, ◌∷◌, ◌≡◌, ◌≤◌}
use Rattle.std.proofs.lemmas.Grind.{rows}
use Rattle.std.proofs.Math.Seq.{take-append_seam}
use Rattle.std.proofs.lemmas.Nat.{div-mul-add, mod-mul-add, mul-add-lt}
use Rattle.lattice.specs.Corners.{Corner, is_corner, same_corner}
use Rattle.lattice.proofs.CornerOrder.{same_says}
use Rattle.drainage.specs.Padded.{IsPlaceRight, IsTileCopied, IsStrip, strip_of, AreFilledTo, IsFilledAround}

-- a tile's corner lies in whole degrees
pub corner_if : (n : ℕ) (c : Corner) (tiles : List Tile) → All (IsTile n) tiles → IsTrue (list_any (λ t. same_corner t.corner c) tiles) → IsTrue (is_corner c)
corner_if n c [] whole none = absurd (true≢false (sym none))
corner_if n c (t ∷ ts) whole some = ⊎_elim
    (λ here. subst (λ d. IsTrue (is_corner d)) (same_says t.corner c here) (whole 0 t (omega arith)).corner)
    (λ later. corner_if n c ts (λ k d lt. whole (suc k) d (omega arith)) later)
    (or_cases (same_corner t.corner c) _ some)

-- the call that says whether a tile is present agrees with the mosaic's list of corners
pub told_present : (m : Mosaic) (c : Corner) (corners : List Corner) → corners_of m ≡ corners → (b : Bool) → (IsTrue b ↔ Contains corners c) → b ≡ is_present m c
told_present m c corners all true says = sym ((present_iff m c).1 (subst (λ (cs : List Corner). Contains cs c) (sym all) (says.0 refl)))
told_present m c corners all false says = elim (cases_Bool (is_present m c)) [
  | inl here ↦ absurd (true≢false (sym (says.1 (subst (λ (cs : List Corner). Contains cs c) all ((present_iff m c).0 here)))))
  | inr off ↦ sym off
]

-- no tile is present beyond the last whole degrees
pub none_present : (m : Mosaic) → IsMosaic m → (c : Corner) → (IsTrue (is_corner c) → ⊥) → false ≡ is_present m c
none_present m is c off = elim (cases_Bool (is_present m c)) [
  | inl here ↦ absurd (off (corner_if m.side c m.tiles is.tiles here))
  | inr none ↦ sym none
]

-- a vector whose whole list is overwritten has the new list
pub vec_back : (len : ℕ) (new items : List ℤ) → length new ≡ length items → len ≡ length items → take len (new ++ drop (length new) items) ≡ new
vec_back len new items same is = ap (λ k. take k (new ++ drop (length new) items)) (is ∙ sym same) ∙ take-append_seam new (drop (length new) items)

pub below_product : (a b m k : ℕ) → a < m → b < k → a * k + b < m * k
below_product a b m k up left = grind (arith, rows)

pub quotient_below : (k a b : ℕ) → 0 < b → k < a * b → k / b < a
quotient_below k a b some small = grind (arith, rows)

-- each strip lies within the square
pub strip_fits : (n : ℕ) → 3 ≤ n → (u : ℕ) → IsStrip n (strip_of n u)
strip_fits n side zero = record { rows = omega arith; columns = omega arith; some = omega arith }
strip_fits n side (suc zero) = record { rows = omega arith; columns = omega arith; some = omega arith }
strip_fits n side (suc (suc zero)) = record { rows = omega arith; columns = omega arith; some = omega arith }
strip_fits n side (suc (suc (suc u))) = record { rows = omega arith; columns = omega arith; some = omega arith }

module _ (m : Mosaic) (c : Corner) where
  abbrev n : ℕ
  n = m.side

  abbrev width : ℕ
  width = n + 4

  -- writing a level to its place
  module _ (now : List ℤ) (i j : ℕ) (v : ℤ) (column : j < width) (within : i * width + j < length now) (this : IsLevelOrVoid m (padded_point n c i j) v) where
    abbrev new : List ℤ
    new = slice_set now (i * width + j) v

    pub written : IsPlaceRight m c new i j
    written = subst (IsLevelOrVoid m (padded_point n c i j)) (sym (get_or-set_same now (i * width + j) v void within)) this

    pub still : (h k : ℕ) → k < width → IsPlaceRight m c now h k → IsPlaceRight m c new h k
    still h k small right = elim (cases_eq (h * width + k) (i * width + j)) [
      | inl same ↦
          let row : h ≡ i = one_row width h k i j small column same in
          let here : k ≡ j = one_column width h k i j small column same in
          subst (λ a. IsPlaceRight m c new a k) (sym row) (subst (λ b. IsPlaceRight m c new i b) (sym here) written)
      | inr other ↦
          subst (IsLevelOrVoid m (padded_point n c h k)) (sym (get_or-set_other now (i * width + j) (h * width + k) v void other)) right
    ]

  module _ (strip : Strip) (is : IsStrip n strip) where
    pub fill_more : (old now : List ℤ) (number : ℕ) (v : ℤ) → number < strip.rows * strip.columns → length old ≡ width * width
        → IsLevelOrVoid m (padded_point n c (strip.row + number / strip.columns) (strip.column + number % strip.columns)) v → AreFilledTo m c strip number old now
        → AreFilledTo m c strip (number + 1) old (slice_set now ((strip.row + number / strip.columns) * width + (strip.column + number % strip.columns)) v)
    fill_more old now number v small size this was =
        let some = is.some in
        let columns_end = is.columns in
        let rows_end = is.rows in
        let a : ℕ = number / strip.columns in
        let b : ℕ = number % strip.columns in
        let inside : b < strip.columns = omega arith in
        let row : a < strip.rows = quotient_below number strip.rows strip.columns some small in
        let column : strip.column + b < width = omega arith in
        let i : ℕ = strip.row + a in
        let j : ℕ = strip.column + b in
        let within : (strip.row + a) * width + (strip.column + b) < length now =
        subst (λ k. (strip.row + a) * width + (strip.column + b) < k) (sym (was.whole ∙ size)) (mul-add-lt (strip.row + a) width (strip.column + b) width (omega arith) column) in
        record {
          whole = length-set now (i * width + j) v ∙ was.whole;
          kept = λ h k low right. still now i j v column within this h k low (was.kept h k low right);
          right = λ e f low end. elim (cases_lt (e * strip.columns + f) number) [
            | inl before ↦ still now i j v column within this (strip.row + e) (strip.column + f) (omega arith) (was.right e f before end)
            | inr after ↦
                let same : e * strip.columns + f ≡ number = omega arith in
                let ea : e ≡ a = sym (div-mul-add e strip.columns f end) ∙ ap (λ k. k / strip.columns) same in
                let fb : f ≡ b = sym (mod-mul-add e strip.columns f end) ∙ ap (λ k. k % strip.columns) same in
                subst (λ k. IsPlaceRight m c (slice_set now (i * width + j) v) (strip.row + k) (strip.column + f)) (sym ea)
                (subst (λ k. IsPlaceRight m c (slice_set now (i * width + j) v) i (strip.column + k)) (sym fb) (written now i j v column within this))
          ];
        }

  -- the first `count` strips around the tile are set
  pub record AreStripsTo (count : ℕ) (levels new_levels : List ℤ) : Type 0 where
    pub whole : length new_levels ≡ length levels
    pub kept : (i j : ℕ) → j < width → IsPlaceRight m c levels i j → IsPlaceRight m c new_levels i j
    pub right : (u a b : ℕ) → u < count → a < (strip_of n u).rows → b < (strip_of n u).columns → IsPlaceRight m c new_levels ((strip_of n u).row + a) ((strip_of n u).column + b)

  pub strips_more : 3 ≤ n → (old now new : List ℤ) (u : ℕ) → AreStripsTo u old now → AreFilledTo m c (strip_of n u) ((strip_of n u).rows * (strip_of n u).columns) now new → AreStripsTo (u + 1) old new
  strips_more side old now new u was more = record {
    whole = more.whole ∙ was.whole;
    kept = λ i j small right. more.kept i j small (was.kept i j small right);
    right = λ v a b low row column. elim (cases_lt v u) [
      | inl before ↦
          let end = (strip_fits n side v).columns in
          more.kept ((strip_of n v).row + a) ((strip_of n v).column + b) (omega (arith, end, column)) (was.right v a b before row column)
      | inr after ↦
          let same : v ≡ u = omega arith in
          subst (λ k. (a < (strip_of n k).rows) → (b < (strip_of n k).columns) → IsPlaceRight m c new ((strip_of n k).row + a) ((strip_of n k).column + b)) (sym same)
          (λ inside_row inside. more.right a b (below_product a b (strip_of n u).rows (strip_of n u).columns inside_row inside) inside) row column
    ];
  }

  pub around_all : 3 ≤ n → (old new : List ℤ) → AreStripsTo 4 old new → IsFilledAround m c old new
  around_all side old new all = record {
    whole = all.whole;
    kept = all.kept;
    right = λ i j row column around. ⊎_elim (λ north. at 0 i j i j (omega arith) north column (omega arith) (omega arith))
        (λ other. ⊎_elim (λ south. at 1 (i - (n + 2)) j i j (omega arith) (omega arith) (omega arith) (omega arith) (omega arith))
        (λ rest. elim (cases_lt i 2) [
          | inl north ↦ at 0 i j i j (omega arith) north column (omega arith) (omega arith)
          | inr low ↦ elim (cases_lt i (n + 2)) [
            | inl inside ↦ ⊎_elim
                (λ west. at 2 (i - 2) j i j (omega arith) (omega arith) west (omega arith) (omega arith))
                (λ east. at 3 (i - 2) (j - (n + 2)) i j (omega arith) (omega arith) (omega arith) (omega arith) (omega arith)) rest
            | inr south ↦ at 1 (i - (n + 2)) j i j (omega arith) (omega arith) (omega arith) (omega arith) (omega arith)
          ]
        ]) other) around;
  }
    where
      at : (u a b i j : ℕ) → u < 4 → a < (strip_of n u).rows → b < (strip_of n u).columns → (strip_of n u).row + a ≡ i → (strip_of n u).column + b ≡ j → IsPlaceRight m c new i j
      at u a b i j small row column row_is column_is = subst (λ h. IsPlaceRight m c new h j) row_is (subst (λ k. IsPlaceRight m c new ((strip_of n u).row + a) k) column_is (all.right u a b small row column))

  -- the tile's levels and the four strips make up the whole square
  pub all_padded : 3 ≤ n → (tile first copied new : List ℤ) → length first ≡ width * width → AreTileLevels m c tile → IsTileCopied n n tile first copied → IsFilledAround m c copied new → ArePadded m c new
  all_padded side tile first copied new size levels copy around = record {
    whole = around.whole ∙ copy.whole ∙ size;
    on_ground = λ i j row column solid. (right i j row column).on_ground solid;
    elsewhere = λ i j row column off. (right i j row column).elsewhere off;
  }
    where
      inside : (i j : ℕ) → 2 ≤ i → i < n + 2 → 2 ≤ j → j < n + 2 → IsPlaceRight m c copied i j
      inside i j up down left end =
          let r : ℕ = i - 2 in
          let s : ℕ = j - 2 in
          let e : ℕ = r * n + s in
          let row : r < n = omega arith in
          let column : s < n = omega arith in
          let small : e < n * n = mul-add-lt r n s n row column in
          let place : place_in n r s ≡ i * width + j = ap₂ (λ a b. a * width + b) (omega arith) (omega arith) in
          let read : slice_index_or copied (i * width + j) void ≡ slice_index_or tile e void = ap (λ k. slice_index_or copied k void) (sym place) ∙ copy.copied r s row column in
          let quotient : e / n ≡ r = div-mul-add r n s column in
          let rest : e % n ≡ s = mod-mul-add r n s column in
          let point : point_of n c e ≡ padded_point n c i j = same_place (point_of n c e) (padded_point n c i j) (omega (arith, ints)) (omega (arith, ints)) in
          subst (λ q. IsLevelOrVoid m q (slice_index_or copied (i * width + j) void)) point
          (subst (IsLevelOrVoid m (point_of n c e)) (sym read) (record { on_ground = levels.filled e small; elsewhere = levels.void_points e small }))

      right : (i j : ℕ) → i < width → j < width → IsPlaceRight m c new i j
      right i j row column = elim (cases_lt i 2) [
        | inl north ↦ around.right i j row column (inl north)
        | inr up ↦ elim (cases_lt i (n + 2)) [
          | inr south ↦ around.right i j row column (inr (inl south))
          | inl down ↦ elim (cases_lt j 2) [
            | inl west ↦ around.right i j row column (inr (inr (inl west)))
            | inr left ↦ elim (cases_lt j (n + 2)) [
              | inr east ↦ around.right i j row column (inr (inr (inr east)))
              | inl end ↦ around.kept i j column (inside i j up down left end)
            ]
          ]
        ]
      ]
