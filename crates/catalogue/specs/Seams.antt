-- The number of points at which tiles disagree (defined by this product).
use Rattle.std.specs.Prelude.{◌≡◌, ℕ, if◌then◌else◌, List, length, count_by}
use Rattle.lattice.specs.Mosaic.{Mosaic}
use Rattle.lattice.specs.Height.{disagrees}
use Rattle.lattice.specs.Ground.{same_point}
use Rattle.lattice.specs.declared.point.Point.{Point}

-- Tiles disagree at n points: a list of n points has exactly these, each once.
pub record IsSeamCount (m : Mosaic) (n : ℕ) : Type 0 where
  pub points : List Point
  pub once : (p : Point) → count_by (same_point p) points ≡ (if disagrees m p then 1 else 0)
  pub count : length points ≡ n
