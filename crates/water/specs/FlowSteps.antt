-- A flow path while it is being followed.
use Rattle.std.specs.Prelude.{◌≡◌, ℤ, ◌++◌, ◌∷◌, IsTrue, List, Option, Some, None, MatchOption}
use Rattle.lattice.specs.declared.point.Point.{Point}
use Rattle.lattice.specs.declared.direction.Dir.{Dir}
use Rattle.lattice.specs.Steps.{step}
use Rattle.lattice.specs.Terrain.{Terrain}
use Rattle.water.specs.Drainage.{IsDirection}
use Rattle.water.specs.FlowPath.{IsFlowPath}

module _ (t : Terrain Point) (level : Point → ℤ) where
  -- the point that p drains to; None if p drains off the mosaic
  abbrev pub IsNext : Point → Option Point → Type 0
  IsNext p found = MatchOption found (IsDirection t level p None) (λ q. (d : Dir) × (IsDirection t level p (Some d) × (q ≡ step d p)))

  -- the path so far, continued by the flow path of its last point, is the flow path of its first point
  pub record IsFollowed (first last : Point) (path : List Point) : Type 0 where
    pub solid : IsTrue (t.is_ground last)
    pub leads : (tail : List Point) → IsFlowPath t level last (last ∷ tail) → IsFlowPath t level first (path ++ tail)
