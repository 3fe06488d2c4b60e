-- A tile's summary as callers see it.
use Rattle.std.specs.Prelude.{List}
use Rattle.lattice.specs.Corners.{Corner}
use Rattle.labelling.specs.declared.spill.Spill.{Spill}
use Rattle.border_graph.specs.declared.summary.RimPoint.{RimPoint}

-- a tile's corner, the points of its rim by rim number, and the spills between its labels
pub record Summary : Type 0 where
  pub corner : Corner
  pub rim : List RimPoint
  pub spills : List Spill
