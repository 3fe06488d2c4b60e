-- The order of points.
use Rattle.std.specs.Prelude.{int_lt, Bool, ◌&&◌, ◌||◌}
use Rattle.std.specs.Ordering.{int_eq}
use Rattle.lattice.specs.declared.point.Point.{Point}

-- rising y, then rising x
abbrev pub is_point_before : Point → Point → Bool
is_point_before p q = int_lt p.y q.y || (int_eq p.y q.y && int_lt p.x q.x)
