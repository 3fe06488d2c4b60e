-- What the laws of drainage require of a terrain.
use Rattle.std.specs.Prelude.{◌≡◌, ℤ, ◌≤ℤ◌, IsTrue}
use Rattle.lattice.specs.declared.point.Point.{Point}
use Rattle.lattice.specs.declared.direction.Dir.{Dir}
use Rattle.lattice.specs.Steps.{step}
use Rattle.lattice.specs.Terrain.{Terrain, IsLawful}

-- adjacent points are a step apart, and all ground is at least as high as `bottom`
pub record IsGrid (t : Terrain Point) (bottom : ℤ) : Type 0 where
  pub lawful : IsLawful t
  pub steps : (x y : Point) → IsTrue (t.is_adjacent x y) → (d : Dir) × (y ≡ step d x)
  pub bottom_below : (x : Point) → IsTrue (t.is_ground x) → bottom ≤ℤ t.height x

-- only ground points are adjacent, adjacency is symmetric, and adjacent points are a step apart
pub record IsStepped (t : Terrain Point) : Type 0 where
  pub lawful : IsLawful t
  pub steps : (x y : Point) → IsTrue (t.is_adjacent x y) → (d : Dir) × (y ≡ step d x)
