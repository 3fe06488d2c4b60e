-- The filled levels that answer queries about a point and about a tile. The definitions are this product's own.
use Rattle.std.specs.Prelude.{◌≡◌, ℕ, ◌*◌, ◌<◌, ℤ, IsTrue, IsFalse, List, length, slice_index_or}
use Rattle.lattice.specs.Corners.{Corner}
use Rattle.lattice.specs.Lattice.{point_of}
use Rattle.lattice.specs.Ground.{is_ground, terrain}
use Rattle.lattice.specs.Mosaic.{Mosaic, void}
use Rattle.lattice.specs.Terrain.{IsFilledLevel}
use Rattle.lattice.specs.declared.point.Point.{Point}

-- the point's filled level; void if it isn't ground
pub record IsLevelOrVoid (m : Mosaic) (p : Point) (level : ℤ) : Type 0 where
  pub on_ground : IsTrue (is_ground m p) → IsFilledLevel (terrain m) p level
  pub elsewhere : IsFalse (is_ground m p) → level ≡ void

-- the filled levels, in the whole mosaic, of all points of the corner's tile, by index; void where a point has no height
pub record AreTileLevels (m : Mosaic) (c : Corner) (levels : List ℤ) : Type 0 where
  pub whole : length levels ≡ m.side * m.side
  pub filled : (e : ℕ) → e < m.side * m.side → IsTrue (is_ground m (point_of m.side c e)) → IsFilledLevel (terrain m) (point_of m.side c e) (slice_index_or levels e void)
  pub void_points : (e : ℕ) → e < m.side * m.side → IsFalse (is_ground m (point_of m.side c e)) → slice_index_or levels e void ≡ void
