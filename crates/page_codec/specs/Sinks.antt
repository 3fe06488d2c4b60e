-- The sinks of a root (defined by this product).
use Rattle.std.specs.Prelude.{ℕ, IsTrue, List, ◌++◌}
use Rattle.lattice.specs.Points.{is_point_before}
use Rattle.lattice.specs.declared.point.Point.{Point}
use Rattle.page_codec.specs.Numbers.{i32_bytes}

-- the order of sinks
abbrev pub SinkIsBefore : Point → Point → Type 0
SinkIsBefore a b = IsTrue (is_point_before a b)

-- the only spelling of a sink, 8 bytes
unfoldable pub sink_bytes : Point → List ℕ
sink_bytes p = i32_bytes p.y ++ i32_bytes p.x
