-- That filled levels exist.
use Rattle.std.specs.Prelude.{ℤ}
use Rattle.lattice.specs.declared.point.Point.{Point}
use Rattle.lattice.specs.Mosaic.{Mosaic, IsMosaic}
use Rattle.lattice.specs.Ground.{terrain}
use Rattle.water.specs.Drainage.{AreFilledLevels}

-- on every mosaic some function gives the filled levels of all ground points
abbrev pub LevelFunctionsExist : Type 0
LevelFunctionsExist = (m : Mosaic) → IsMosaic m → (level : Point → ℤ) × AreFilledLevels (terrain m) level
