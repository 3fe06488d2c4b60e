-- Steps across a flat, and steps to its exits.
use Rattle.std.specs.Prelude.{◌≡◌, ℤ, IsTrue}
use Rattle.flow_d8.specs.Prelude.{Point, Dir, step, Terrain}
use Rattle.water.specs.Drainage.{CrossesFlat}

module _ (t : Terrain Point) (level : Point → ℤ) where
  -- y is adjacent to x and has its level
  pub record IsAcross (x y : Point) : Type 0 where
    pub beside : IsTrue (t.is_adjacent x y)
    pub same_level : level y ≡ level x

  -- the step leads across the flat to an exit: a point with a lower adjacent one, or an outlet
  pub record LeadsToEnd (x : Point) (d : Dir) : Type 0 where
    pub across : IsAcross x (step d x)
    pub end : CrossesFlat t level (step d x) 0
