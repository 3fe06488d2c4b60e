-- The law of runs: a set of points is the set of only one list of runs.
use Rattle.std.specs.Prelude.{◌≡◌, Bool, IsTrue, List}
use Rattle.lattice.specs.declared.point.Point.{Point}
use Rattle.water.specs.declared.run.Run.{Run}
use Rattle.water.specs.Runs.{AreRuns}

-- a set has one list of maximal runs
abbrev pub RunsAreUnique : Type 0
RunsAreUnique = (inside : Point → Bool) (runs others : List Run) → AreRuns (λ p. IsTrue (inside p)) runs → AreRuns (λ p. IsTrue (inside p)) others → runs ≡ others
