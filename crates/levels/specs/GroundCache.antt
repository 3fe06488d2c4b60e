-- The cache of ground points around a tile. The definitions are this product's own.
use Rattle.std.specs.Prelude.{◌≡◌, ℕ, true, List, Option, Some, None, Contains, slice_index_or}
use Rattle.lattice.specs.Corners.{Corner}
use Rattle.lattice.specs.Ground.{is_ground}
use Rattle.lattice.specs.Lattice.{Holds}
use Rattle.lattice.specs.Mosaic.{Mosaic}
use Rattle.lattice.specs.declared.point.Point.{Point}
use Rattle.catalogue.specs.Tiles.{corners_of}
use Rattle.levels.specs.declared.ground_cache.GroundPoint.{GroundPoint}

-- the point is cached with this tile
pub record IsRemembered (ground_cache : List (Option GroundPoint)) (p : Point) (c : Corner) : Type 0 where
  pub place : ℕ
  pub there : slice_index_or ground_cache place None ≡ Some (record { point = p; tile = c })

-- the point is ground, and the tile is present and has it
pub record IsGroundIn (m : Mosaic) (p : Point) (c : Corner) : Type 0 where
  pub ground : is_ground m p ≡ true
  pub present : Contains (corners_of m) c
  pub held : Holds m.side c p

-- all cached points are ground in their tiles
abbrev pub AreRemembered : Mosaic → List (Option GroundPoint) → Type 0
AreRemembered m ground_cache = (p : Point) (c : Corner) → IsRemembered ground_cache p c → IsGroundIn m p c
