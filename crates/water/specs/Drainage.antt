-- Where each ground point drains: D-8 of O'Callaghan and Mark (1984) on filled levels. The order of ties and the rule on
-- flats are this product's own.
use Rattle.std.specs.Prelude.{◌≡◌, ℕ, zero, suc, ◌<◌, ◌≤◌, ℤ, ◌-ℤ◌, ◌<ℤ◌, nat_abs, IsTrue, IsFalse, Option, Some, None, ◌⊎◌}
use Rattle.lattice.specs.declared.point.Point.{Point}
use Rattle.lattice.specs.declared.direction.Dir.{Dir}
use Rattle.lattice.specs.Steps.{step, order_of, is_steeper}
use Rattle.lattice.specs.Terrain.{Terrain, IsFilledLevel}

-- the levels of ground points are their filled levels
abbrev pub AreFilledLevels : Terrain Point → (Point → ℤ) → Type 0
AreFilledLevels t level = (x : Point) → IsTrue (t.is_ground x) → IsFilledLevel t x (level x)

module _ (t : Terrain Point) (level : Point → ℤ) where
  -- y is adjacent to x and has a lower level
  pub record IsLower (x y : Point) : Type 0 where
    pub beside : IsTrue (t.is_adjacent x y)
    pub below : level y <ℤ level x

  abbrev pub HasLower : Point → Type 0
  HasLower x = (y : Point) × IsLower x y

  -- how far the level falls by a step
  abbrev pub drop_by : Point → Dir → ℕ
  drop_by x d = nat_abs (level x -ℤ level (step d x))

  -- the step leads to a lower point; no such step is steeper, and those before it in code order are less steep
  pub record IsSteepest (x : Point) (d : Dir) : Type 0 where
    pub lower : IsLower x (step d x)
    pub steepest : (e : Dir) → IsLower x (step e x) → IsFalse (is_steeper e (drop_by x e) d (drop_by x d))
    pub first : (e : Dir) → IsLower x (step e x) → order_of e < order_of d → IsTrue (is_steeper d (drop_by x d) e (drop_by x e))

  -- k steps over points of one level lead from x to a point with a lower neighbour, or to an outlet
  abbrev pub CrossesFlat : Point → ℕ → Type 0
  CrossesFlat x zero = HasLower x ⊎ IsTrue (t.is_outlet x)
  CrossesFlat x (suc k) = (y : Point) × (IsTrue (t.is_adjacent x y) × (level y ≡ level x) × CrossesFlat y k)

  -- the least number of such steps; 0 for a point with a lower neighbour and for an outlet
  pub record IsFlatDistance (x : Point) (k : ℕ) : Type 0 where
    pub crosses : CrossesFlat x k
    pub least : (j : ℕ) → CrossesFlat x j → k ≤ j

  -- y is adjacent to x, has its level, and a flat distance less by one
  pub record IsNearer (x y : Point) : Type 0 where
    pub beside : IsTrue (t.is_adjacent x y)
    pub same_level : level y ≡ level x
    pub nearer : (k : ℕ) × (IsFlatDistance y k × IsFlatDistance x (suc k))

  -- the step is the first, in code order, to a nearer point
  pub record IsFirstNearer (x : Point) (d : Dir) : Type 0 where
    pub nearer : IsNearer x (step d x)
    pub first : (e : Dir) → IsNearer x (step e x) → order_of d ≤ order_of e

  -- where a ground point drains. A point with a lower neighbour: by the steepest step. Another outlet: off the mosaic (None).
  -- Any other point: by the first step, in code order, that crosses its flat the shortest way
  abbrev pub IsDirection : Point → Option Dir → Type 0
  IsDirection x (Some d) = IsSteepest x d ⊎ ((HasLower x → ⊥) × (IsFalse (t.is_outlet x) × IsFirstNearer x d))
  IsDirection x None = (HasLower x → ⊥) × IsTrue (t.is_outlet x)
