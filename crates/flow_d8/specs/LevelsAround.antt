-- The levels at a point and around it.
use Rattle.std.specs.Prelude.{◌≡◌, ℤ, IsTrue, IsFalse, if◌then◌else◌, List, Option, Some, None, MatchOption, map}
use Rattle.flow_d8.specs.Prelude.{Point, Dir, step, directions, Terrain, IsFilledLevel, Mosaic, is_ground, terrain}
use Rattle.flow_d8.specs.declared.levels_around.Near.{Near}
use Rattle.water.specs.Drainage.{AreFilledLevels}

-- the point's filled level; None if it isn't ground
abbrev pub IsLevelAt : Mosaic → Point → Option ℤ → Type 0
IsLevelAt m p found = MatchOption found (IsFalse (is_ground m p)) (λ level. IsFilledLevel (terrain m) p level)

-- the level of the adjacent point in this direction; None if no point is adjacent there
abbrev pub beside_of : Terrain Point → (Point → ℤ) → Point → Dir → Option ℤ
beside_of t level p d = if t.is_adjacent p (step d p) then Some (level (step d p)) else None

-- the levels around the point, by direction in the order of codes
abbrev pub around_of : Terrain Point → (Point → ℤ) → Point → List (Option ℤ)
around_of t level p = map (beside_of t level p) directions

-- the statement is true for each function that gives the mosaic's filled levels
abbrev pub OnLevels : Mosaic → ((Point → ℤ) → Type 0) → Type 0
OnLevels m Says = (level : Point → ℤ) → AreFilledLevels (terrain m) level → Says level

-- the point is ground, and these are its level and the levels around it
pub record IsNear (m : Mosaic) (p : Point) (near : Near) : Type 0 where
  pub solid : IsTrue (is_ground m p)
  pub here : OnLevels m (λ level. level p ≡ near.height)
  pub around_it : OnLevels m (λ level. near.around ≡ around_of (terrain m) level p)
