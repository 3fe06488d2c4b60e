-- Raising: computes the filled levels of all points of a block from their in-block levels and the rim's filled levels. After
-- the tiled flooding of Barnes (2016); the definitions are this product's own.
use Rattle.std.specs.Prelude.{◌≡◌, ◌≢◌, ℕ, ◌*◌, ◌-◌, ◌<◌, ℤ, IsTrue, IsFalse, List, length, slice_index, slice_index_or, nat_eq, if◌then◌else◌, Option, Some, None, ◌⊎◌}
use Rattle.std.specs.Int.{int_max}
use Rattle.lattice.specs.Corners.{Corner}
use Rattle.lattice.specs.Lattice.{point_of}
use Rattle.lattice.specs.Mosaic.{Mosaic, IsMosaic, is_present, void, is_void}
use Rattle.lattice.specs.Ground.{is_ground, terrain}
use Rattle.lattice.specs.Terrain.{IsFilledLevel}
use Rattle.lattice.specs.Block.{Block, IsBlockOf, is_rim, rim_number}
use Rattle.labelling.specs.Labelling.{IsLabelling, OUT, NO_LABEL}

-- the filled levels, in the whole mosaic, of the rim points of the corner's tile, by rim number; void where a rim point has
-- no height
pub record AreRimLevels (m : Mosaic) (c : Corner) (rim : List ℤ) : Type 0 where
  pub whole : length rim ≡ 4 * (m.side - 1)
  pub filled : (e : ℕ) → e < m.side * m.side → IsTrue (is_rim m.side e) → IsTrue (is_ground m (point_of m.side c e)) →
      IsFilledLevel (terrain m) (point_of m.side c e) (slice_index_or rim (rim_number m.side e) void)
  pub void_points : (e : ℕ) → e < m.side * m.side → IsTrue (is_rim m.side e) → IsFalse (is_ground m (point_of m.side c e)) → slice_index_or rim (rim_number m.side e) void ≡ void

-- a valid labelling of the corner's tile, and the filled levels of its rim
pub record IsRimFilled (m : Mosaic) (c : Corner) (n : ℕ) (levels : List ℤ) (labels : List ℕ) (rim : List ℤ) : Type 0 where
  pub mosaic : IsMosaic m
  pub side : n ≡ m.side
  pub present : IsTrue (is_present m c)
  pub labelled : (b : Block) × (IsBlockOf m c b × IsLabelling b levels labels)
  pub rim_levels : AreRimLevels m c rim

-- the greater of the point's level and the level of the rim point that its label names; for OUT, the point's level. None if
-- the label names no rim point with a level, or if only one of level and label is that of a void
abbrev pub raised_level : List ℤ → ℤ → ℕ → Option ℤ
raised_level rim level label =
    if nat_eq label NO_LABEL then (if is_void level then Some void else None)
    else (if is_void level then None
    else (if nat_eq label OUT then Some level
    else (if is_void (slice_index_or rim label void) then None else Some (int_max level (slice_index_or rim label void)))))

module _ (n : ℕ) (levels : List ℤ) (labels : List ℕ) (rim : List ℤ) where
  pub record AreRaised (filled : List ℤ) : Type 0 where
    pub rim_whole : length rim ≡ 4 * (n - 1)
    pub whole : length filled ≡ n * n
    pub each : (e : ℕ) → e < n * n → raised_level rim (slice_index_or levels e void) (slice_index labels e) ≡ Some (slice_index_or filled e void)

  -- the rim has another number of points than that of a tile with side n, or some point can't be raised
  abbrev pub CannotBeRaised : Type 0
  CannotBeRaised = (length rim ≢ 4 * (n - 1)) ⊎ ((e : ℕ) × ((e < n * n) × (raised_level rim (slice_index_or levels e void) (slice_index labels e) ≡ None)))
