-- Laws of upstream counts: a point has one, and it is the number of points in its watershed's runs.
use Rattle.std.specs.Prelude.{◌≡◌, ℕ, ℤ, IsTrue, List}
use Rattle.std.specs.List.{sum_by}
use Rattle.lattice.specs.declared.point.Point.{Point}
use Rattle.lattice.specs.Terrain.{Terrain}
use Rattle.water.specs.FlowPath.{IsInWatershed}
use Rattle.water.specs.Counts.{IsUpstreamCount}
use Rattle.water.specs.Runs.{AreRuns, run_count}
use Rattle.water.specs.declared.run.Run.{Run}

-- at most one number is the point's count
abbrev pub CountsAreUnique : Type 0
CountsAreUnique = (t : Terrain Point) (level : Point → ℤ) (p : Point) (k other : ℕ) → IsUpstreamCount t level p k → IsUpstreamCount t level p other → k ≡ other

-- the number of points of the runs
abbrev pub points_in : List Run → ℕ
points_in runs = sum_by run_count runs

-- the number of points that drain through a ground point is that of its watershed's runs
abbrev pub CountsAreOfWatersheds : Type 0
CountsAreOfWatersheds = (t : Terrain Point) (level : Point → ℤ) (p : Point) (runs : List Run) → IsTrue (t.is_ground p) → AreRuns (IsInWatershed t level p) runs → IsUpstreamCount t level p (points_in runs)
