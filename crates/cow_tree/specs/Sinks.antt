-- The declared sinks that a tree has in memory.
use Rattle.std.specs.Prelude.{ℕ, List}
use Rattle.lattice.specs.declared.point.Point.{Point}

-- the side of the tiles, and the sinks in order
pub record SinksValue : Type 0 where
  pub side : ℕ
  pub points : List Point
