-- Rim points that several tiles share.
use Rattle.std.specs.Prelude.{◌≡◌, ℕ, ◌<◌, IsTrue, List, length}
use Rattle.std.specs.List.{AllAdjacentBelow}
use Rattle.lattice.specs.declared.point.Point.{Point}
use Rattle.lattice.specs.Corners.{Corner, is_corner}
use Rattle.lattice.specs.Lattice.{IsBefore, IsIndexOf}
use Rattle.lattice.specs.Block.{is_rim, rim_number}
use Rattle.border_graph.specs.Summaries.{Summary}
use Rattle.border_graph.specs.Joining.{summary_at}

-- the tiles are in the order of their corners, and no corner occurs twice
pub record AreInOrder (summaries : List Summary) : Type 0 where
  pub corners : (t : ℕ) → t < length summaries → IsTrue (is_corner (summary_at summaries t).corner)
  pub rising : AllAdjacentBelow (λ a b. IsBefore a.corner b.corner) summaries (length summaries)

-- the point p has the rim number k in the corner's tile
pub record IsOfRim (n : ℕ) (c : Corner) (k : ℕ) (p : Point) : Type 0 where
  pub index : ℕ
  pub rim : IsTrue (is_rim n index)
  pub number : rim_number n index ≡ k
  pub at : IsIndexOf n c p index
