-- The numbers of a window's points.
use Rattle.std.proofs.Common.{to_z, of_z, min, SFits, FitsSigned, w32, ◌≡◌, ℕ, zero, suc, ◌+◌, ◌-◌, ◌*◌, ◌/◌, ◌%◌, ◌<◌, ◌≤◌, ◌↔◌, ℤ, pos, negsuc, ◌+ℤ◌, ◌-ℤ◌, ◌≤ℤ◌, int_lt, Bool, true, false, ◌&&◌, ◌||◌, IsTrue, IsFalse, cond, Some, None, nat_eq, nat_lt, refl, sym, ap, ◌∙◌, subst, arith}
use Rattle.std.proofs.Math.Nat.{mul-le-mul_right}
use Rattle.std.proofs.lemmas.Nat.{div_below, mod_below, div-mul-add, mod-mul-add, div-add-mod'}
use Rattle.std.proofs.lemmas.Int.{ints, to_z-of_z}
use Rattle.std.proofs.lemmas.Bool.Decides.{nat_tests}
use Rattle.lattice.specs.declared.refusal.Refusal.TheVariants.{BadLength, BadBox}
use Rattle.water.specs.Runs.{IsInRun}
use Rattle.water.specs.declared.run.Run.{Run}
use Rattle.windows.specs.Windows.{point_in, is_beyond, refused_at_once}
use Rattle.windows.specs.declared.window.Window.{Window}

picked : (same beyond : Bool) → cond same (cond beyond (Some BadBox) None) (Some BadLength) ≡ None → IsTrue same × IsFalse beyond
picked true false none = (refl, refl)
picked true true none = cc
picked false beyond none = cc

cleared : (any south east : Bool) → any ≡ true → (any && (south || east)) ≡ false → (south ≡ false) × (east ≡ false)
cleared true false false is not = (refl, refl)
cleared true false true is not = cc
cleared true true east is not = cc
cleared false south east is not = cc

not_below : (a b : ℤ) → int_lt a b ≡ false → b ≤ℤ a
not_below a b none = grind (arith, ints)

some_columns : (rows columns len : ℕ) → rows * columns ≡ len → 0 < len → 0 < columns
some_columns rows zero len is some = absurd (omega (arith, is, some))
some_columns rows (suc columns) len is some = omega arith

northward : (north y : ℤ) (r : ℕ) → north -ℤ y ≡ pos r → north -ℤ pos r ≡ y
northward north y r is = omega (arith, ints)

same_row : (north y : ℤ) (q r : ℕ) → north -ℤ pos q ≡ y → north -ℤ y ≡ pos r → q ≡ r
same_row north y q r there is = omega (arith, ints)

pub fits_low : (north : ℤ) (q : ℕ) → SFits w32 north → negsuc 2147483647 ≤ℤ (north -ℤ pos q) → FitsSigned w32 (north -ℤ pos q)
fits_low north q fits low = omega (arith, ints)

pub fits_high : (west : ℤ) (c : ℕ) → SFits w32 west → (west +ℤ pos c) ≤ℤ pos 2147483647 → FitsSigned w32 (west +ℤ pos c)
fits_high west c fits high = omega (arith, ints)

module _ (w : Window) (len : ℕ) (none : refused_at_once w len ≡ None) where
  pub sized : w.rows * w.columns ≡ len
  sized = let is = (picked (nat_eq (w.rows * w.columns) len) (nat_lt 0 len && is_beyond w) none).0 in grind (arith, nat_tests)

  some_any : 0 < len → nat_lt 0 len ≡ true
  some_any some = grind (arith, nat_tests)

  -- The last row and the last column are within 32 bits.
  ends : 0 < len → (negsuc 2147483647 ≤ℤ (w.north -ℤ pos (w.rows - 1))) × ((w.west +ℤ pos (w.columns - 1)) ≤ℤ pos 2147483647)
  ends some =
      let south = w.north -ℤ pos (w.rows - 1) in
      let east = w.west +ℤ pos (w.columns - 1) in
      let off = (picked (nat_eq (w.rows * w.columns) len) (nat_lt 0 len && is_beyond w) none).1 in
      let clear = cleared (nat_lt 0 len) (int_lt south (negsuc 2147483647)) (int_lt (pos 2147483647) east) (some_any some) off in
      (not_below south (negsuc 2147483647) clear.0, not_below (pos 2147483647) east clear.1)

  module _ (k : ℕ) (inside : k < len) where
    pub some : 0 < w.columns
    some = some_columns w.rows w.columns len sized (omega (arith, inside))

    pub row : k / w.columns < w.rows
    row = div_below k w.columns w.rows some (omega (arith, inside, sized))

    pub column : k % w.columns < w.columns
    column = mod_below k w.columns some

    pub low : negsuc 2147483647 ≤ℤ (w.north -ℤ pos (k / w.columns))
    low = let south = (ends (omega (arith, inside))).0 in let small = row in omega (arith, ints)

    pub high : (w.west +ℤ pos (k % w.columns)) ≤ℤ pos 2147483647
    high = let east = (ends (omega (arith, inside))).1 in let small = column in omega (arith, ints)

    -- The point is in the run exactly if its number is between these.
    pub exact : (run : Run) (r first after : ℕ) → w.north -ℤ run.y ≡ pos r → after ≤ w.columns
        → ((c : ℕ) → c < w.columns → ((first ≤ c) × (c < after)) ↔ ((run.first ≤ℤ (w.west +ℤ pos c)) × ((w.west +ℤ pos c) ≤ℤ run.last)))
        → ((r * w.columns + first ≤ k) × (k < r * w.columns + after)) ↔ IsInRun run (point_in w k)
    exact run r first after row_is narrow columns = (forth, back)
      where
        forth : (r * w.columns + first ≤ k) × (k < r * w.columns + after) → IsInRun run (point_in w k)
        forth between =
            let c = k - r * w.columns in
            let here : c < w.columns = omega (arith, between.0, between.1, narrow) in
            let split : r * w.columns + c ≡ k = omega (arith, between.0) in
            let q : k / w.columns ≡ r = ap (λ n. n / w.columns) (sym split) ∙ div-mul-add r w.columns c here in
            let m : k % w.columns ≡ c = ap (λ n. n % w.columns) (sym split) ∙ mod-mul-add r w.columns c here in
            let both = (columns c here).0 (omega (arith, between.0), omega (arith, between.0, between.1)) in (
              ap (λ n. w.north -ℤ pos n) q ∙ northward w.north run.y r row_is,
              subst (λ n. (run.first ≤ℤ (w.west +ℤ pos n)) × ((w.west +ℤ pos n) ≤ℤ run.last)) (sym m) both,
            )

        back : IsInRun run (point_in w k) → (r * w.columns + first ≤ k) × (k < r * w.columns + after)
        back lies =
            let q : k / w.columns ≡ r = same_row w.north run.y (k / w.columns) r lies.0 row_is in
            let split : r * w.columns + k % w.columns ≡ k = ap (λ n. n * w.columns + k % w.columns) (sym q) ∙ div-add-mod' k w.columns in
            let both = (columns (k % w.columns) column).1 lies.1 in
            (omega (arith, split, both.0), omega (arith, split, both.1))

-- The points of a row end within the window.
pub row_within : (rows columns len row after : ℕ) → rows * columns ≡ len → row < rows → after ≤ columns → row * columns + after ≤ len
row_within rows columns len row after size small narrow =
    let more = mul-le-mul_right {m = suc row} {n = rows} columns (omega (arith, small)) in
    let next : suc row * columns ≡ row * columns + columns = grind arith in
    omega (arith, more, next, narrow, size)

same_number : (z : ℤ) → SFits w32 z → to_z w32 (of_z w32 z) ≡ z
same_number z fits = to_z-of_z w32 z fits

-- the difference of two 32-bit numbers, as the code computes it
pub apart : (a b : ℤ) (r : ℕ) → SFits w32 a → SFits w32 b → to_z w32 (of_z w32 a) ≡ (to_z w32 (of_z w32 b) +ℤ pos r) → a -ℤ b ≡ pos r
apart a b r fits_a fits_b is =
    let plain : a ≡ (b +ℤ pos r) = sym (same_number a fits_a) ∙ is ∙ ap (λ z. z +ℤ pos r) (same_number b fits_b) in
    omega (arith, ints)

module _ (west from to : ℤ) (columns first most after : ℕ) (fits_west : SFits w32 west) (fits_from : SFits w32 from) (fits_to : SFits w32 to) (narrow : columns < 4294967296) (after_is : after ≡ min most columns)
    (lows : (c : ℕ) → (first ≤ c) ↔ (to_z w32 (of_z w32 from) ≤ℤ (to_z w32 (of_z w32 west) +ℤ pos c))) (highs : (c : ℕ) → c < 4294967295 → (c < most) ↔ ((to_z w32 (of_z w32 west) +ℤ pos c) ≤ℤ to_z w32 (of_z w32 to))) where
  -- which points of a row are between two values of x
  pub columns_in : (c : ℕ) → c < columns → ((first ≤ c) × (c < after)) ↔ ((from ≤ℤ (west +ℤ pos c)) × ((west +ℤ pos c) ≤ℤ to))
  columns_in c small =
      let low : (first ≤ c) ↔ (from ≤ℤ (west +ℤ pos c)) = subst (λ z. (first ≤ c) ↔ (z ≤ℤ (west +ℤ pos c))) (same_number from fits_from) (subst (λ z. (first ≤ c) ↔ (to_z w32 (of_z w32 from) ≤ℤ (z +ℤ pos c))) (same_number west fits_west) (lows c)) in
      let high : (c < most) ↔ ((west +ℤ pos c) ≤ℤ to) = subst (λ z. (c < most) ↔ ((west +ℤ pos c) ≤ℤ z)) (same_number to fits_to) (subst (λ z. (c < most) ↔ ((z +ℤ pos c) ≤ℤ to_z w32 (of_z w32 to))) (same_number west fits_west) (highs c (omega (arith, small, narrow)))) in (
        (λ between. (low.0 between.0, high.0 (omega (arith, between.1, after_is)))),
        (λ lies. let below = high.1 lies.1 in (low.1 lies.0, omega (arith, small, after_is, below))),
      )
