-- Laws of ground and filled levels, for readers of the definitions.
use Rattle.std.specs.Prelude.{◌≡◌, ℤ, IsTrue, List}
use Rattle.lattice.specs.Corners.{Corner, is_corner}
use Rattle.lattice.specs.declared.point.Point.{Point}
use Rattle.lattice.specs.Terrain.{IsFilledLevel, LeadsOut, IsLawful}
use Rattle.lattice.specs.Mosaic.{Mosaic, IsMosaic}
use Rattle.lattice.specs.Ground.{is_ground, terrain}
use Rattle.lattice.specs.Block.{Block, AreHeightsOf, IsBlockOf, block_terrain}
use Rattle.lattice.specs.SinkIndices.{sinks_in}

-- adjacent points are ground and adjacent both ways, and outlets are ground
abbrev pub TerrainsAreLawful : Type 0
TerrainsAreLawful = (m : Mosaic) → IsLawful (terrain m)

abbrev pub BlocksAreLawful : Type 0
BlocksAreLawful = (b : Block) → IsLawful (block_terrain b)

-- every ground point has a path to an outlet
abbrev pub WaysOutExist : Type 0
WaysOutExist = (m : Mosaic) → IsMosaic m → (p : Point) → IsTrue (is_ground m p) → (rest : List Point) × LeadsOut (terrain m) p rest

-- every ground point has a filled level
abbrev pub FilledLevelsExist : Type 0
FilledLevelsExist = (m : Mosaic) → IsMosaic m → (p : Point) → IsTrue (is_ground m p) → (level : ℤ) × IsFilledLevel (terrain m) p level

-- A point has at most one filled level.
abbrev pub FilledLevelsAreUnique : Type 0
FilledLevelsAreUnique = (m : Mosaic) (p : Point) (level other : ℤ) → IsFilledLevel (terrain m) p level → IsFilledLevel (terrain m) p other → level ≡ other

-- The heights of a tile's points and the indices of its sinks make its block.
abbrev pub HeightsMakeABlock : Type 0
HeightsMakeABlock = (m : Mosaic) (c : Corner) (heights : List ℤ) → IsMosaic m → IsTrue (is_corner c) → AreHeightsOf m c heights →
    IsBlockOf m c (record { side = m.side; heights = heights; sinks = sinks_in m.side c m.sinks })
