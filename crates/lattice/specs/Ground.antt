-- Ground, adjacency and outlets: where water stands, where it flows and where it leaves (defined by this product).
use Rattle.std.specs.Prelude.{ℕ, ℤ, ◌-ℤ◌, Bool, true, false, ◌&&◌, ◌||◌, not, nat_lt, nat_abs, count_by}
use Rattle.std.specs.Ordering.{int_eq}
use Rattle.std.specs.List.{list_any}
use Rattle.lattice.specs.declared.point.Point.{Point}
use Rattle.lattice.specs.declared.height.Height.{Height}
use Rattle.lattice.specs.declared.height.Height.TheVariants.{At}
use Rattle.lattice.specs.Lattice.{holds}
use Rattle.lattice.specs.Steps.{step, directions}
use Rattle.lattice.specs.Mosaic.{Mosaic, void}
use Rattle.lattice.specs.Height.{height_of}
use Rattle.lattice.specs.Terrain.{Terrain}

abbrev pub is_height : Height → Bool
is_height (At h) = true
is_height _ = false

-- the height in metres, for a point that has one
abbrev pub metres : Height → ℤ
metres (At h) = h
metres _ = void

-- the point has a height
abbrev pub is_ground : Mosaic → Point → Bool
is_ground m p = is_height (height_of m p)

abbrev pub same_point : Point → Point → Bool
same_point p q = int_eq p.y q.y && int_eq p.x q.x

-- The points are at most one row and one column apart.
abbrev pub is_near : Point → Point → Bool
is_near p q = nat_lt (nat_abs (p.y -ℤ q.y)) 2 && nat_lt (nat_abs (p.x -ℤ q.x)) 2

-- A present tile has both points.
abbrev pub share_tile : Mosaic → Point → Point → Bool
share_tile m p q = list_any (λ t. holds m.side t.corner p && holds m.side t.corner q) m.tiles

-- The points are different ground points, at most one row and one column apart, and one present tile has both.
abbrev pub is_adjacent : Mosaic → Point → Point → Bool
is_adjacent m p q = is_ground m p && is_ground m q && not (same_point p q) && is_near p q && share_tile m p q

-- the number of adjacent points
abbrev pub degree_of : Mosaic → Point → ℕ
degree_of m p = count_by (λ d. is_adjacent m p (step d p)) directions

-- the point is declared a sink
abbrev pub is_sink : Mosaic → Point → Bool
is_sink m p = list_any (λ s. same_point s p) m.sinks

-- a ground point with fewer than eight adjacent points, or one that is declared a sink
abbrev pub is_outlet : Mosaic → Point → Bool
is_outlet m p = is_ground m p && (nat_lt (degree_of m p) 8 || is_sink m p)

-- the whole mosaic as a terrain
abbrev pub terrain : Mosaic → Terrain Point
terrain m = record {
  is_ground = is_ground m;
  height = λ p. metres (height_of m p);
  is_adjacent = is_adjacent m;
  is_outlet = is_outlet m;
}
