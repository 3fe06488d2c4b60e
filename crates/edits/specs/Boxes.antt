-- Boxes point by point.
use Rattle.std.specs.Prelude.{◌≡◌, ℕ, ◌+◌, ◌*◌, ◌/◌, ◌%◌, ℤ, pos, ◌+ℤ◌, ◌-ℤ◌, nat_abs, nat_lt, Bool, ◌&&◌, if◌then◌else◌}
use Rattle.lattice.specs.declared.point.Point.{Point}
use Rattle.lattice.specs.Mosaic.{Mosaic}
use Rattle.edits.specs.Effect.{edited, is_in_box, is_void_at}
use Rattle.edits.specs.declared.boxes.BoxPoints.{BoxPoints}

-- the point with this number in a box with this many columns, row by row northwards
abbrev pub box_point : Point → ℕ → ℕ → Point
box_point from columns k = record { y = from.y +ℤ pos (k / columns); x = from.x +ℤ pos (k % columns) }

-- the number of a point of the box
abbrev pub box_place : Point → ℕ → Point → ℕ
box_place from columns p = nat_abs (p.y -ℤ from.y) * columns + nat_abs (p.x -ℤ from.x)

-- These are the points of the box.
pub record ArePointsOf (from to : Point) (points : BoxPoints) : Type 0 where
  pub first : points.from ≡ from
  pub rows : to.y +ℤ pos 1 ≡ from.y +ℤ pos points.rows
  pub columns : to.x +ℤ pos 1 ≡ from.x +ℤ pos points.columns

-- The point is among the first k of the box.
abbrev pub is_among : Point → Point → (columns k : ℕ) → Point → Bool
is_among from to columns k p = is_in_box from to p && nat_lt (box_place from columns p) k

abbrev pub is_void_among : Mosaic → Point → Point → (columns k : ℕ) → Point → Bool
is_void_among m from to columns k p = is_among from to columns k p && is_void_at m p

-- the mosaic with this sample at each point that passes the test, in every present tile with the point
abbrev pub filled : (Point → Bool) → ℤ → Mosaic → Mosaic
filled test s m = edited (λ p v. if test p then s else v) m
