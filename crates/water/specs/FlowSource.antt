-- What a source of flows says about a point.
use Rattle.std.specs.Prelude.{◌≡◌, ◌↔◌, ℤ, IsTrue, IsFalse}
use Rattle.lattice.specs.declared.point.Point.{Point}
use Rattle.lattice.specs.Terrain.{Terrain}
use Rattle.water.specs.Drainage.{IsDirection}
use Rattle.water.specs.declared.flow.Flow.{Flow}
use Rattle.water.specs.declared.flow.Flow.TheVariants.{NoGround}
use Rattle.water.specs.Flows.{direction_of}

-- for a ground point the flow has its direction; for another point it is NoGround
pub record IsToldOf (t : Terrain Point) (level : Point → ℤ) (p : Point) (flow : Flow) : Type 0 where
  pub on_ground : IsTrue (t.is_ground p) → IsDirection t level p (direction_of flow)
  pub elsewhere : (flow ≡ NoGround) ↔ IsFalse (t.is_ground p)
