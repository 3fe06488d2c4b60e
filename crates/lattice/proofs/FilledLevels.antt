-- Each ground point of a mosaic has a filled level: the mosaic's points are finitely many.
use Rattle.lattice.proofs.Prelude.{Bool, IsFilledLevel, IsMosaic, IsTrue, List, Mosaic, Point, Tile, ℕ, ℤ, [], and_parts, arith, cases_Bool, holds, inl, inr, int_le, ints, is_along, is_ground, list_any, or_cases, or_left, or_right, pos, subst, suc, sym, terrain, true≢false, zero, ⊎_elim, ◌*ℤ◌, ◌++◌, ◌+ℤ◌, ◌-◌, ◌<ℤ◌, ◌∙◌, ◌∷◌, ◌≡◌, ◌≤ℤ◌, ◌≤◌, ◌⊎◌}
use Rattle.std.proofs.lemmas.List.Folds.{list_any-append}
use Rattle.lattice.proofs.Lawful.{terrain_is_lawful}
use Rattle.lattice.proofs.WaysOut.{way_out, held}
use Rattle.lattice.proofs.IntTests.{le_true}
use Rattle.lattice.proofs.Existence.{level_exists}

any_in_both : {X : Type 0} (f : X → Bool) (xs ys : List X) → (IsTrue (list_any f xs) ⊎ IsTrue (list_any f ys)) → IsTrue (list_any f (xs ++ ys))
any_in_both f xs ys (inl here) = list_any-append f xs ys ∙ or_left (list_any f xs) (list_any f ys) here
any_in_both f xs ys (inr there) = list_any-append f xs ys ∙ or_right (list_any f xs) (list_any f ys) there

-- the first points of a row, from the west
row : ℤ → ℤ → ℕ → List Point
row y west zero = []
row y west (suc k) = record { y = y; x = west +ℤ pos k } ∷ row y west k

-- the first rows of n points, from the south
rows : ℤ → ℤ → ℕ → ℕ → List Point
rows south west n zero = []
rows south west n (suc k) = row (south +ℤ pos k) west n ++ rows south west n k

points_among : ℕ → List Tile → List Point
points_among n [] = []
points_among n (t ∷ rest) = rows (t.corner.lat *ℤ pos (n - 1)) (t.corner.lon *ℤ pos (n - 1)) n n ++ points_among n rest

last : (a b : ℤ) → b ≤ℤ a → (b ≡ a) ⊎ (b <ℤ a)
last a b le = elim (cases_Bool (int_le a b)) [ inl ge ↦ inl (let ge' = le_true a b ge in omega (arith, ints)) | inr lt ↦ inr (grind (arith, ints)) ]

module _ (f : Point → Bool) (p : Point) (yes : IsTrue (f p)) where
  in_row : (west : ℤ) (k : ℕ) → west ≤ℤ p.x → p.x <ℤ (west +ℤ pos k) → IsTrue (list_any f (row p.y west k))
  unfolding row
  in_row west zero low high = absurd (omega (arith, ints))
  in_row west (suc k) low high = elim (last (west +ℤ pos k) p.x (omega (arith, ints))) [
    | inl same ↦ or_left (f (record { y = p.y; x = west +ℤ pos k })) _ (subst (λ (v : ℤ). IsTrue (f (record { y = p.y; x = v }))) same yes)
    | inr before ↦ or_right (f (record { y = p.y; x = west +ℤ pos k })) _ (in_row west k low before)
  ]

  in_rows : (south west : ℤ) (n k : ℕ) → west ≤ℤ p.x → p.x <ℤ (west +ℤ pos n) → south ≤ℤ p.y → p.y <ℤ (south +ℤ pos k) → IsTrue (list_any f (rows south west n k))
  unfolding rows
  in_rows south west n zero wl wh low high = absurd (omega (arith, ints))
  in_rows south west n (suc k) wl wh low high = elim (last (south +ℤ pos k) p.y (omega (arith, ints))) [
    | inl same ↦ any_in_both f (row (south +ℤ pos k) west n) (rows south west n k) (inl (subst (λ (v : ℤ). IsTrue (list_any f (row v west n))) same (in_row west n wl wh)))
    | inr before ↦ any_in_both f (row (south +ℤ pos k) west n) (rows south west n k) (inr (in_rows south west n k wl wh low before))
  ]

  among : (n : ℕ) → 1 ≤ n → (tiles : List Tile) → IsTrue (list_any (λ t. holds n t.corner p) tiles) → IsTrue (list_any f (points_among n tiles))
  unfolding points_among
  among n some [] h = absurd (true≢false (sym h))
  among n some (t ∷ rest) h = any_in_both f _ (points_among n rest) (⊎_elim (λ here. inl (of_tile here)) (λ later. inr (among n some rest later)) (or_cases (holds n t.corner p) _ h))
    where
      of_tile : IsTrue (holds n t.corner p) → IsTrue (list_any f (rows (t.corner.lat *ℤ pos (n - 1)) (t.corner.lon *ℤ pos (n - 1)) n n))
      of_tile here =
          let both = and_parts (is_along (pos (n - 1)) t.corner.lat p.y) (is_along (pos (n - 1)) t.corner.lon p.x) here in
          let ys = and_parts (int_le (t.corner.lat *ℤ pos (n - 1)) p.y) _ both.0 in
          let xs = and_parts (int_le (t.corner.lon *ℤ pos (n - 1)) p.x) _ both.1 in
          let south = le_true (t.corner.lat *ℤ pos (n - 1)) p.y ys.0 in
          let north = le_true p.y (t.corner.lat *ℤ pos (n - 1) +ℤ pos (n - 1)) ys.1 in
          let west = le_true (t.corner.lon *ℤ pos (n - 1)) p.x xs.0 in
          let east = le_true p.x (t.corner.lon *ℤ pos (n - 1) +ℤ pos (n - 1)) xs.1 in
          in_rows (t.corner.lat *ℤ pos (n - 1)) (t.corner.lon *ℤ pos (n - 1)) n n west (omega (arith, ints)) south (omega (arith, ints))

pub filled_level_exists : (m : Mosaic) → IsMosaic m → (p : Point) → IsTrue (is_ground m p) → (l : ℤ) × IsFilledLevel (terrain m) p l
filled_level_exists m is p solid =
    let low : 3 ≤ m.side = is.side_low in
    let way = way_out m is p solid in
    level_exists (terrain m) (terrain_is_lawful m) (points_among m.side m.tiles)
    (λ f x on yes. among f x yes m.side (omega arith) m.tiles (held m.side x m.tiles on)) p way.0 way.1
