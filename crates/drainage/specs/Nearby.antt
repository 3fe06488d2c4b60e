-- A point's level, from the cached results of one tile. The definitions are this product's own.
use Rattle.std.specs.Prelude.{ℕ, ℤ, Option}
use Rattle.lattice.specs.declared.point.Point.{Point}
use Rattle.lattice.specs.Lattice.{Holds}
use Rattle.lattice.specs.Mosaic.{Mosaic, IsMosaic}
use Rattle.flow_d8.specs.LevelsAround.{IsLevelAt}
use Rattle.border_graph.specs.Others.{corner_at}
use Rattle.levels.specs.Holding.{Known, IsRight}

-- the tile with number t has the point, and `found` is the point's level if the cache is right
pub record IsKnownLevel (known : Known) (t : ℕ) (p : Point) (found : Option ℤ) : Type 0 where
  pub held : Holds known.side (corner_at known.corners t) p
  pub level : (m : Mosaic) → IsMosaic m → IsRight m known → IsLevelAt m p found
