-- The points of a window and their values (defined by this product).
use Rattle.std.specs.Prelude.{◌≡◌, ◌⊎◌, ℕ, ◌*◌, ◌-◌, ◌/◌, ◌%◌, ◌<◌, min, nat_eq, nat_lt, ℤ, pos, negsuc, int_lt, ◌+ℤ◌, ◌-ℤ◌, Bool, ◌&&◌, ◌||◌, IsTrue, IsFalse, if◌then◌else◌, Option, Some, None, List, length, slice_index, slice_index_or}
use Rattle.lattice.specs.Corners.{Corner}
use Rattle.lattice.specs.Ground.{is_ground, terrain}
use Rattle.lattice.specs.Lattice.{holds, index_of}
use Rattle.lattice.specs.Mosaic.{Mosaic}
use Rattle.lattice.specs.declared.point.Point.{Point}
use Rattle.lattice.specs.declared.refusal.Refusal.{Refusal}
use Rattle.lattice.specs.declared.refusal.Refusal.TheVariants.{BadLength, BadBox}
use Rattle.water.specs.Drainage.{AreFilledLevels}
use Rattle.water.specs.FlowPath.{IsInWatershed}
use Rattle.water.specs.Counts.{IsUpstreamCount}
use Rattle.windows.specs.declared.window.Window.{Window}

-- the point with this number, row by row from the north-west
abbrev pub point_in : Window → ℕ → Point
point_in w k = record { y = w.north -ℤ pos (k / w.columns); x = w.west +ℤ pos (k % w.columns) }

-- The last row or the last column is beyond 32 bits.
abbrev pub is_beyond : Window → Bool
is_beyond w = int_lt (w.north -ℤ pos (w.rows - 1)) (negsuc 2147483647) || int_lt (pos 2147483647) (w.west +ℤ pos (w.columns - 1))

-- BadLength if a slice of this length hasn't one element for each point, BadBox if points are beyond 32 bits, else no
-- refusal
abbrev pub refused_at_once : Window → ℕ → Option Refusal
refused_at_once w len = if nat_eq (w.rows * w.columns) len then (if nat_lt 0 len && is_beyond w then Some BadBox else None) else Some BadLength

module _ (w : Window) {X : Type 0} (IsOf : Point → X → Type 0) where
  -- The values are right for the first points.
  abbrev pub AreTo : ℕ → List X → Type 0
  AreTo count values = (blank : X) (k : ℕ) → k < count → IsOf (point_in w k) (slice_index_or values k blank)

  -- The values are right for all points, and there are no more.
  pub record AreOfAll (values : List X) : Type 0 where
    pub whole : length values ≡ w.rows * w.columns
    pub each : AreTo (w.rows * w.columns) values

-- This many points drain through the point, itself included; 0 if it isn't ground.
abbrev pub IsCountAt : Mosaic → Point → ℕ → Type 0
IsCountAt m p k = (level : Point → ℤ) → AreFilledLevels (terrain m) level → IsUpstreamCount (terrain m) level p k

-- the point's count from a tile's counts if the tile has the point, else the old value
abbrev pub count_or : ℕ → Corner → List ℕ → Point → ℕ → ℕ
count_or n c counts p was = if holds n c p then slice_index_or counts (index_of n c p) 0 else was

-- The counts of those window points that the tile has were written, and the other values stay.
abbrev pub ArePut : Mosaic → Window → Corner → List ℕ → List ℕ → Type 0
ArePut m w c old new = (k : ℕ) → k < length old → (IsTrue (holds m.side c (point_in w k)) → IsCountAt m (point_in w k) (slice_index new k))
    × (IsFalse (holds m.side c (point_in w k)) → slice_index new k ≡ slice_index old k)

-- 1 if the statement is true, else 0
abbrev pub IsMark : Type 0 → ℕ → Type 0
IsMark so mark = ((mark ≡ 1) × so) ⊎ ((mark ≡ 0) × ¬ so)

-- the marks of those window points that drain through the point, and the number of all points that do, at most the
-- largest 64-bit number
pub record IsShed (m : Mosaic) (p : Point) (w : Window) (marks : List ℕ) (count : ℕ) : Type 0 where
  pub on_ground : IsTrue (is_ground m p)
  pub marked : (level : Point → ℤ) → AreFilledLevels (terrain m) level → AreOfAll w (λ q mark. IsMark (IsInWatershed (terrain m) level p q) mark) marks
  pub counted : (level : Point → ℤ) → AreFilledLevels (terrain m) level → (k : ℕ) × (IsUpstreamCount (terrain m) level p k × (count ≡ min k 18446744073709551615))
