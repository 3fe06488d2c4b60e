-- What changes of the points in a box leave unchanged. The definitions are this product's own.
use Rattle.std.specs.Prelude.{◌≡◌, ℕ, ◌-◌, ℤ, pos, ◌+ℤ◌, ◌-ℤ◌, ◌*ℤ◌, int_le, nat_lt, Bool, false, ◌&&◌, ◌||◌, not, List, length}
use Rattle.lattice.specs.Corners.{Corner}
use Rattle.lattice.specs.Ground.{is_sink}
use Rattle.lattice.specs.Height.{height_of}
use Rattle.lattice.specs.Mosaic.{Mosaic}
use Rattle.lattice.specs.declared.point.Point.{Point}
use Rattle.catalogue.specs.Tiles.{corners_of}
use Rattle.border_graph.specs.Others.{corner_at}

-- the point lies in the box; ends are included
abbrev pub is_between : Point → Point → Point → Bool
is_between from to p = int_le from.y p.y && int_le p.y to.y && int_le from.x p.x && int_le p.x to.x

-- a value from `from` to `to` lies within one step of a tile whose corner has this latitude (or longitude) and whose edges
-- are m apart
abbrev pub reaches_along : ℤ → ℤ → ℤ → ℤ → Bool
reaches_along m corner from to = int_le (corner *ℤ m -ℤ pos 1) to && int_le from (corner *ℤ m +ℤ m +ℤ pos 1)

-- the corner's tile has a point of the box, or a point next to one
abbrev pub reaches : ℕ → Corner → Point → Point → Bool
reaches n c from to = reaches_along (pos (n - 1)) c.lat from.y to.y && reaches_along (pos (n - 1)) c.lon from.x to.x

-- tile t has a point of the box or a point next to one, or there is no tile t
abbrev pub is_reached : ℕ → List Corner → Point → Point → ℕ → Bool
is_reached n corners from to t = not (nat_lt t (length corners)) || reaches n (corner_at corners t) from to

-- the mosaics have the same tiles, and outside the box the same heights and sinks
pub record DifferBetween (m new : Mosaic) (from to : Point) : Type 0 where
  pub same_side : new.side ≡ m.side
  pub same_corners : corners_of new ≡ corners_of m
  pub heights : (p : Point) → is_between from to p ≡ false → height_of new p ≡ height_of m p
  pub sinks : (p : Point) → is_between from to p ≡ false → is_sink new p ≡ is_sink m p

-- the mosaics have the same tiles and sinks, and the same heights except at p
pub record DifferAt (m new : Mosaic) (p : Point) : Type 0 where
  pub around : DifferBetween m new p p
  pub all_sinks : (q : Point) → is_sink new q ≡ is_sink m q
