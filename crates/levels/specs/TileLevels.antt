-- The filled levels of a tile's rim points while they are being computed.
use Rattle.std.specs.Prelude.{◌≡◌, ℕ, ◌<◌, ℤ, List, length, slice_index_or}
use Rattle.lattice.specs.Corners.{Corner}
use Rattle.lattice.specs.Lattice.{point_of}
use Rattle.lattice.specs.Mosaic.{Mosaic, void}
use Rattle.water.specs.TileLevels.{IsLevelOrVoid}
use Rattle.lattice.specs.RimPoints.{IsRimPoint}

-- the list has the filled levels of the first `count` rim points of the corner's tile, by rim number
pub record AreRimLevelsTo (m : Mosaic) (c : Corner) (count : ℕ) (levels : List ℤ) : Type 0 where
  pub whole : length levels ≡ count
  pub each : (k e : ℕ) → k < count → IsRimPoint m.side k e → IsLevelOrVoid m (point_of m.side c e) (slice_index_or levels k void)
