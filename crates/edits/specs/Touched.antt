-- The tiles that a command touches, and those that it makes stale (defined by this product).
use Rattle.std.specs.Prelude.{◌-ℤ◌, Bool, ◌&&◌, ◌||◌, List, map, filter, nat_lt, nat_abs}
use Rattle.std.specs.List.{list_any}
use Rattle.lattice.specs.Corners.{Corner, same_corner}
use Rattle.lattice.specs.declared.point.Point.{Point}
use Rattle.lattice.specs.Lattice.{holds}
use Rattle.lattice.specs.Mosaic.{Tile, Mosaic}
use Rattle.edits.specs.declared.command.Command.{Command}
use Rattle.edits.specs.declared.command.Command.TheVariants.{Import, Remove, Patch, Burn, Wall, Sink, Unsink}
use Rattle.edits.specs.Effect.{has_void_from}

-- The tile has one of the points.
abbrev pub holds_one : Mosaic → List Point → Corner → Bool
holds_one m points c = list_any (λ p. holds m.side c p) points

-- Which tiles a command touches. An import or a remove touches its tile. A burn or a wall touches each tile with a
-- named point, and a patch each tile with a void point of the box. A sink added or removed touches each tile with its
-- point, even if nothing else changes. A tile is a present one, or the one removed.
abbrev pub is_touched : Mosaic → Command → Tile → Bool
is_touched m (Import c bytes) t = same_corner c t.corner
is_touched m (Remove c) t = same_corner c t.corner
is_touched m (Patch from to h) t = has_void_from m from to t.corner 0 t.samples
is_touched m (Burn depth points) t = holds_one m points.items t.corner
is_touched m (Wall h points) t = holds_one m points.items t.corner
is_touched m (Sink q) t = holds m.side t.corner q
is_touched m (Unsink q) t = holds m.side t.corner q

-- The corners are at most one degree of latitude and one of longitude apart: the same tile, or neighbours.
abbrev pub are_neighbours : Corner → Corner → Bool
are_neighbours a b = nat_lt (nat_abs (a.lat -ℤ b.lat)) 2 && nat_lt (nat_abs (a.lon -ℤ b.lon)) 2

-- Some tile that passes the test is the corner's or a neighbour.
abbrev pub is_near_one : (Tile → Bool) → Mosaic → Corner → Bool
is_near_one touched m p = list_any (λ t. touched t && are_neighbours t.corner p) m.tiles

-- The corner's tile is touched, or is a neighbour of a touched tile. The mosaic is the one before the command. An
-- import's new tile is stale, too.
abbrev pub goes_stale : Mosaic → Command → Corner → Bool
goes_stale m (Import c bytes) p = are_neighbours c p
goes_stale m (Remove c) p = are_neighbours c p
goes_stale m (Patch from to h) p = is_near_one (is_touched m (Patch from to h)) m p
goes_stale m (Burn depth points) p = is_near_one (is_touched m (Burn depth points)) m p
goes_stale m (Wall h points) p = is_near_one (is_touched m (Wall h points)) m p
goes_stale m (Sink q) p = is_near_one (is_touched m (Sink q)) m p
goes_stale m (Unsink q) p = is_near_one (is_touched m (Unsink q)) m p

-- the tiles without kept planes after the command: those so far that are still present, those that it touches, and
-- their neighbours
abbrev pub stale_after : Mosaic → Command → List Corner → Mosaic → List Corner
stale_after m c stale new = filter (λ p. list_any (same_corner p) stale || goes_stale m c p) (map (λ t. t.corner) new.tiles)
