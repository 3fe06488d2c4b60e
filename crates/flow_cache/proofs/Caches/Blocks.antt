-- Which blocks the points around a sample lie in, and which samples lie near a block.
use Rattle.std.proofs.Common.{◌≡◌, ℕ, ◌+◌, ◌*◌, ◌/◌, ◌%◌, ◌<◌, ◌≤◌, List, Option, inl, inr, sym, ap, ap₂, ◌∙◌, subst, arith, ℤ, refl, Some, None}
use Rattle.flow_cache.proofs.Prelude.{AreKnownAround, AreRanges, AreSpared, IsAffected, LevelRange, SFits, cases_Bool, cases_lt, if◌then◌else◌, is_range_spared, of_z, range_at, row_below, spared_of, to_z, to_z-of_z, w16}
use Rattle.flow_cache.specs.LevelRanges.{AreKnownAll, AreSparedAround, IsByBlock, IsByRow, block_of}

by_row : (r i : ℕ) → r + 1 ≤ i → i ≤ r + 3 → IsByRow r (i / 32)
by_row r i up down = (omega (arith, up, down), omega (arith, up, down))

-- each place around a sample lies in a block that is near the sample
pub by_place : (n e i j : ℕ) → 0 < n → n ≤ 3601 → e / n + 1 ≤ i → i ≤ e / n + 3 → e % n + 1 ≤ j → j ≤ e % n + 3 → IsByBlock n e (block_of i j)
by_place n e i j some most up down left_of right_of =
    let inside : e % n < n = omega (arith, some) in
    let narrow : j / 32 < 128 = omega (arith, right_of, inside, most) in
    let row : i / 32 ≡ (i / 32 * 128 + j / 32) / 128 = omega (arith, narrow) in
    let column : j / 32 ≡ (i / 32 * 128 + j / 32) % 128 = omega (arith, narrow) in
    (subst (IsByRow (e / n)) row (by_row (e / n) i up down), subst (IsByRow (e % n)) column (by_row (e % n) j left_of right_of))

-- each block near a sample contains a place around that sample
place_by_row : (r at : ℕ) → IsByRow r at → (i : ℕ) × ((r + 1 ≤ i) × (i ≤ r + 3) × (i / 32 ≡ at))
place_by_row r at (low, high) = elim (cases_lt (at * 32) (r + 1)) [
  | inl before ↦ (r + 1, (omega arith, omega arith, omega (arith, before, high)))
  | inr past ↦ (at * 32, (omega (arith, past), omega (arith, low), omega arith))
]

pub place_by : (n e b : ℕ) → IsByBlock n e b → (i : ℕ) × ((j : ℕ) × ((e / n + 1 ≤ i) × (i ≤ e / n + 3) × (e % n + 1 ≤ j) × (j ≤ e % n + 3) × (block_of i j ≡ b)))
place_by n e b (rows, columns) =
    let i = place_by_row (e / n) (b / 128) rows in
    let j = place_by_row (e % n) (b % 128) columns in
    let at : block_of i.0 j.0 ≡ b = ap₂ (λ x y. x * 128 + y) i.1.2 j.1.2 ∙ omega arith in
    (i.0, (j.0, (i.1.0, i.1.1, j.1.0, j.1.1, at)))

-- ranges of the square around a tile are known around each of the tile's samples
pub all_known : (n : ℕ) (levels : List ℤ) (ranges : List (Option LevelRange)) → AreRanges (n + 4) levels ranges → AreKnownAll n ranges
all_known n levels ranges are e small i j up down left_of right_of =
    let some : 0 < n = elim (cases_lt 0 n) [
      | inl some ↦ some
      | inr none ↦ let zero_is : n ≡ 0 = omega (arith, none) in let less : e < 0 * 0 = subst (λ m. e < m * m) zero_is small in absurd (omega (arith, less))
    ] in
    let row : e / n < n = row_below n e some small in
    let column : e % n < n = omega (arith, some) in
    are.all.known (block_of i j) (are.whole i j (omega (arith, row, down)) (omega (arith, column, right_of)))

-- a range that is known after the change was known before it, and the change doesn't affect it
pub spared_around : (was is : ℤ) (old new : List (Option LevelRange)) (n e : ℕ) → AreSpared was is old new → AreKnownAround new n e → AreSparedAround was is old n e
spared_around was is old new n e spared known i j up down left_of right_of none = known i j up down left_of right_of (spared.each (block_of i j) ∙ none)

pub known_around : (was is : ℤ) (old new : List (Option LevelRange)) (n e : ℕ) → AreSpared was is old new → AreSparedAround was is old n e → AreKnownAround new n e
known_around was is old new n e spared known i j up down left_of right_of none = known i j up down left_of right_of (sym (spared.each (block_of i j)) ∙ none)

pub known_before : (was is : ℤ) (old new : List (Option LevelRange)) (n e : ℕ) → AreSpared was is old new → AreKnownAround new n e → AreKnownAround old n e
known_before was is old new n e spared known i j up down left_of right_of none = known i j up down left_of right_of (spared.each (block_of i j) ∙ ap (spared_of was is) none)

none_some : (r : LevelRange) → ◌≡◌ {A = Option LevelRange} None (Some r) → ⊥
none_some r e = cc

-- if the change affects no range, the ranges stay as they are
pub all_spared : (was is : ℤ) (ranges : List (Option LevelRange)) → ((b : ℕ) → IsAffected was is (range_at ranges b) → ⊥) → AreSpared was is ranges ranges
all_spared was is ranges none = record { whole = refl; each = λ b. stays (range_at ranges b) (none b) }
  where
    stays : (o : Option LevelRange) → (IsAffected was is o → ⊥) → o ≡ spared_of was is o
    stays None not = refl
    stays (Some r) not = elim (cases_Bool (is_range_spared was is r)) [
      | inl spared ↦ sym (ap (λ b. if b then Some r else None) spared)
      | inr other ↦ absurd (not ((λ e. none_some r (sym e)), ap (λ b. if b then Some r else None) other))
    ]

-- a 16-bit height is the same number after conversion to machine form and back
pub as_passed : (P : ℤ → ℤ → Type 0) (u v : ℤ) → SFits w16 u → SFits w16 v → P (to_z w16 (of_z w16 u)) (to_z w16 (of_z w16 v)) → P u v
as_passed P u v had fits so = subst (λ a. P a v) (to_z-of_z w16 u had) (subst (P (to_z w16 (of_z w16 u))) (to_z-of_z w16 v fits) so)
