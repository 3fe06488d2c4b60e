-- The steepest step down among the first directions in code order.
use Rattle.std.specs.Prelude.{◌≡◌, ℕ, ◌<◌, ◌≤◌, ℤ}
use Rattle.lattice.specs.declared.point.Point.{Point}
use Rattle.lattice.specs.declared.direction.Dir.{Dir}
use Rattle.lattice.specs.Steps.{step, order_of, slope_of}
use Rattle.lattice.specs.Terrain.{Terrain}
use Rattle.water.specs.Drainage.{IsLower, drop_by}

module _ (t : Terrain Point) (level : Point → ℤ) (p : Point) where
  abbrev pub LeadsDown : Dir → Type 0
  LeadsDown d = IsLower t level p (step d p)

  abbrev pub slope_in : Dir → ℕ
  slope_in d = slope_of d (drop_by t level p d)

  -- among the first k directions no step down is steeper than `best`. If that isn't 0, it is the slope of the step `way`, and
  -- earlier steps are less steep
  pub record IsSteepestOf (k best : ℕ) (way : Dir) : Type 0 where
    pub steepest : (e : Dir) → order_of e < k → LeadsDown e → slope_in e ≤ best
    pub down : 0 < best → LeadsDown way
    pub is : 0 < best → best ≡ slope_in way
    pub first : 0 < best → (e : Dir) → order_of e < order_of way → LeadsDown e → slope_in e < best
