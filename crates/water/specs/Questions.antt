-- What answers a query about the water at a point of a mosaic. The definitions are this product's own.
use Rattle.std.specs.Prelude.{◌≡◌, ℕ, ◌*◌, ◌<◌, ℤ, IsTrue, IsFalse, Option, Some, None, List, length, slice_index}
use Rattle.lattice.specs.Corners.{Corner}
use Rattle.lattice.specs.Lattice.{point_of}
use Rattle.lattice.specs.declared.point.Point.{Point}
use Rattle.lattice.specs.declared.direction.Dir.{Dir}
use Rattle.lattice.specs.declared.height.Height.TheVariants as height
use Rattle.lattice.specs.declared.refusal.Refusal.{Refusal}
use Rattle.lattice.specs.declared.refusal.Refusal.TheVariants.{Outside, Void, NoMemory}
use Rattle.lattice.specs.Steps.{code_of}
use Rattle.lattice.specs.Terrain.{Terrain}
use Rattle.lattice.specs.Mosaic.{Mosaic}
use Rattle.lattice.specs.Height.{height_of}
use Rattle.lattice.specs.Ground.{is_ground, terrain}
use Rattle.water.specs.Drainage.{AreFilledLevels, IsDirection}
use Rattle.water.specs.Counts.{AreUpstreamCounts}

-- the direction's code in replies; 0 for off the mosaic
abbrev pub code_by : Option Dir → ℕ
code_by None = 0
code_by (Some d) = code_of d

-- the point drains in the direction with this code
abbrev pub DrainsBy : Terrain Point → (Point → ℤ) → Point → ℕ → Type 0
DrainsBy t level p code = (d : Option Dir) × (IsDirection t level p d × (code ≡ code_by d))

-- p is ground, and `Says` is true for the mosaic's filled levels
pub record IsAnswered (m : Mosaic) (p : Point) (Says : (Point → ℤ) → Type 0) : Type 0 where
  pub on_ground : IsTrue (is_ground m p)
  pub says : (level : Point → ℤ) → AreFilledLevels (terrain m) level → Says level

-- the refusal says that p isn't ground, or that memory is lacking
abbrev pub IsUnanswered : Mosaic → Point → Refusal → Type 0
IsUnanswered m p Outside = height_of m p ≡ height.Outside
IsUnanswered m p Void = height_of m p ≡ height.Void
IsUnanswered m p NoMemory = Unit {0}
IsUnanswered m p r = ⊥

-- the code of the point's direction; 255 if it isn't ground
pub record IsCodeOrNone (m : Mosaic) (p : Point) (code : ℕ) : Type 0 where
  pub on_ground : IsTrue (is_ground m p) → (level : Point → ℤ) → AreFilledLevels (terrain m) level → DrainsBy (terrain m) level p code
  pub elsewhere : IsFalse (is_ground m p) → code ≡ 255

-- the codes of the first `count` samples of the corner's tile, row by row from the north, west first
pub record AreCodesTo (m : Mosaic) (c : Corner) (count : ℕ) (codes : List ℕ) : Type 0 where
  pub whole : length codes ≡ count
  pub each : (e : ℕ) → e < count → IsCodeOrNone m (point_of m.side c e) (slice_index codes e)

-- the codes of all samples of the corner's tile
abbrev pub AreTileDirections : Mosaic → Corner → List ℕ → Type 0
AreTileDirections m c codes = AreCodesTo m c (m.side * m.side) codes

-- for each sample, the number of ground points with its point on their flow path
abbrev pub AreTileCounts : Mosaic → Corner → List ℕ → Type 0
AreTileCounts m c counts = (level : Point → ℤ) → AreFilledLevels (terrain m) level → AreUpstreamCounts (terrain m) level m.side c counts
