-- A summary with its spills in another order.
use Rattle.std.specs.Prelude.{◌≡◌}
use Rattle.std.specs.List.Sorted.{IsPermutation}
use Rattle.border_graph.specs.Summaries.{Summary}

pub record IsReordered (b b' : Summary) : Type 0 where
  pub corner : b'.corner ≡ b.corner
  pub rim : b'.rim ≡ b.rim
  pub spills : IsPermutation b.spills b'.spills
