-- The points that drain straight to a point, by direction.
use Rattle.std.specs.Prelude.{◌≡◌, ◌↔◌, ◌<◌, ℕ, ℤ, Bool, false, IsTrue, Some, List, slice_index_or}
use Rattle.lattice.specs.declared.point.Point.{Point}
use Rattle.lattice.specs.declared.direction.Dir.{Dir}
use Rattle.lattice.specs.Steps.{step, order_of}
use Rattle.lattice.specs.Terrain.{Terrain}
use Rattle.water.specs.declared.flow.Flow.{Flow}
use Rattle.water.specs.Drainage.{IsDirection}
use Rattle.water.specs.Flows.{IsTellingAll, direction_of}
use Rattle.water.specs.Flows.{back_of}

-- x is a ground point that drains straight to y
pub record IsDonor (t : Terrain Point) (level : Point → ℤ) (x y : Point) : Type 0 where
  pub on_ground : IsTrue (t.is_ground x)
  pub drains : (e : Dir) × (IsDirection t level x (Some e) × (step e x ≡ y))

-- the neighbour in this direction is ground, and drains straight back to p
abbrev pub DrainsBack : Terrain Point → (Point → ℤ) → Point → Dir → Type 0
DrainsBack t level p d = IsTrue (t.is_ground (step d p)) × IsDirection t level (step d p) (Some (back_of d))

-- for each of the first k directions the list says whether it satisfies `Has`
abbrev pub AreToldBy : (Dir → Type 0) → List Bool → ℕ → Type 0
AreToldBy Has told k = (d : Dir) → order_of d < k → IsTrue (slice_index_or told (order_of d) false) ↔ Has d

-- the flow is resolved, and `is_back` says whether its direction is opposite to d
pub record IsBackTold (flow : Flow) (d : Dir) (is_back : Bool) : Type 0 where
  pub all : IsTellingAll flow
  pub back : IsTrue is_back ↔ (direction_of flow ≡ Some (back_of d))
