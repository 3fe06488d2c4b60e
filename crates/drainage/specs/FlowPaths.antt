-- A flow path while it is being followed.
use Rattle.std.specs.Prelude.{◌≢◌, List, Contains}
use Rattle.std.specs.List.{AllPairs}
use Rattle.lattice.specs.declared.point.Point.{Point}
use Rattle.watershed.specs.Marks.{IsMarked, IsIndexed}
use Rattle.watershed.specs.declared.marks.Marks.{Marks}

-- exactly the path's points are marked, and the path has none of them twice
pub record IsMarkedOnce (marks : Marks) (path : List Point) : Type 0 where
  pub once : AllPairs (λ p q. p ≢ q) path
  pub on_path : (p : Point) → IsMarked marks p → Contains path p
  pub is_marked : (p : Point) → Contains path p → IsMarked marks p
  pub indexed : IsIndexed marks
