-- The steepest step down, as directions are tried one after another.
use Rattle.std.proofs.Common.{rules}
use Rattle.water.specs.Drainage.{HasLower, IsLower, IsSteepest, drop_by}
use Rattle.water.specs.SteepestStep.{IsSteepestOf, LeadsDown, slope_in}
use Rattle.std.proofs.Common.{IsTrue, ℕ, ℤ, arith, inl, inr, nat_abs, subst, suc, sym, zero, ⊎_elim, ◌*◌, ◌+◌, ◌-ℤ◌, ◌<ℤ◌, ◌<◌, ◌≡◌, ◌≤◌, ◌⊎◌}
use Rattle.std.proofs.lemmas.Int.{ints}
use Rattle.std.proofs.lemmas.Bool.{cases_eq, lt-ltb, le-ltb}
use Rattle.lattice.specs.declared.point.Point.{Point}
use Rattle.lattice.specs.declared.direction.Dir.{Dir}
use Rattle.lattice.specs.declared.direction.Dir.TheVariants.{SouthEast, SouthWest, NorthWest, NorthEast}
use Rattle.lattice.specs.Steps.{step, order_of, slope_of}
use Rattle.lattice.specs.Terrain.{Terrain}
use Rattle.water.proofs.Compass.{same_order, order_below}

square_some : (n : ℕ) → 0 < n → 0 < n * n
square_some zero some = absurd (omega arith)
square_some (suc n) some = omega arith

twice_some : (n : ℕ) → 0 < n → 0 < 2 * n
twice_some n some = omega arith

slope_some : (d : Dir) (n : ℕ) → 0 < n → 0 < slope_of d n
slope_some SouthEast n some = square_some n some
slope_some SouthWest n some = square_some n some
slope_some NorthWest n some = square_some n some
slope_some NorthEast n some = square_some n some
slope_some _ n some = twice_some (n * n) (square_some n some)

gap_some : (a b : ℤ) → b <ℤ a → 0 < nat_abs (a -ℤ b)
gap_some a b h = omega (arith, ints)

module _ (t : Terrain Point) (level : Point → ℤ) (p : Point) where
  slope_down_some : (d : Dir) → LeadsDown t level p d → 0 < slope_in t level p d
  slope_down_some d low = slope_some d (drop_by t level p d) (gap_some (level p) (level (step d p)) low.below)

  -- a direction among the first ones and this one
  this_or_before : (d e : Dir) → order_of e < order_of d + 1 → (e ≡ d) ⊎ (order_of e < order_of d)
  this_or_before d e below = elim (cases_eq (order_of e) (order_of d)) [ inl same ↦ inl (same_order e d same) | inr other ↦ inr (omega arith) ]

  -- trying one more direction d, with the slope of its step; 0 if the step doesn't lead down
  module _ (d : Dir) (slope : ℕ) (slope_down : LeadsDown t level p d → slope ≡ slope_in t level p d) (down_slope : 0 < slope → LeadsDown t level p d)
      (best : ℕ) (way : Dir) (is : IsSteepestOf t level p (order_of d) best way) where
    pub taken : best < slope → IsSteepestOf t level p (order_of d + 1) slope d
    taken more =
        let down = down_slope (omega arith) in
        let same = slope_down down in
        record {
          steepest = λ e below low. ⊎_elim (λ this. subst (λ g. slope_in t level p g ≤ slope) (sym this) (omega (arith, same)))
              (λ before. omega (arith, is.steepest e before low)) (this_or_before d e below);
          down = λ much. down;
          is = λ much. same;
          first = λ much e before low. omega (arith, is.steepest e before low);
        }

    pub left : slope ≤ best → IsSteepestOf t level p (order_of d + 1) best way
    left less = search rules

  pub begun : (d : Dir) → IsSteepestOf t level p 0 0 d
  begun d = search rules

  module _ (best : ℕ) (way : Dir) (is : IsSteepestOf t level p 8 best way) where
    pub steepest_of_all : 0 < best → IsSteepest t level p way
    steepest_of_all much = record {
      lower = is.down much;
      steepest = λ e low. le-ltb (slope_in t level p way) (slope_in t level p e) (subst (λ v. slope_in t level p e ≤ v) (is.is much) (is.steepest e (order_below e) low));
      first = λ e low before. lt-ltb (slope_in t level p e) (slope_in t level p way) (subst (λ v. slope_in t level p e < v) (is.is much) (is.first much e before low));
    }

    pub none_of_all : ((y : Point) → IsTrue (t.is_adjacent p y) → (d : Dir) × (y ≡ step d p)) → best ≡ 0 → HasLower t level p → ⊥
    none_of_all steps nothing low =
        let away = steps low.0 low.1.beside in
        let down : LeadsDown t level p away.0 = subst (λ y. IsLower t level p y) away.1 low.1 in
        omega (arith, is.steepest away.0 (order_below away.0) down, slope_down_some away.0 down)
