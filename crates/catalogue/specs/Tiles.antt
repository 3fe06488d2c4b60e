-- The tiles of a mosaic in their order, and changes of them (defined by this product).
use Rattle.std.specs.Prelude.{Bool, not, if◌then◌else◌, List, [], ◌∷◌, map, filter}
use Rattle.std.specs.List.{list_any}
use Rattle.lattice.specs.Corners.{Corner, is_before, same_corner}
use Rattle.lattice.specs.Mosaic.{Tile, Mosaic}
use Rattle.lattice.specs.declared.point.Point.{Point}

-- the corners of the present tiles, in order
abbrev pub corners_of : Mosaic → List Corner
corners_of m = map (λ t. t.corner) m.tiles

-- the corner is in the list
abbrev pub is_listed : Corner → List Corner → Bool
is_listed c corners = list_any (λ d. same_corner d c) corners

-- the tiles with one more, in order
abbrev pub with_tile : Tile → List Tile → List Tile
with_tile new [] = new ∷ []
with_tile new (t ∷ rest) = if is_before new.corner t.corner then new ∷ (t ∷ rest) else t ∷ with_tile new rest

-- the mosaic with one more tile
abbrev pub added : Tile → Mosaic → Mosaic
added t m = record m { tiles = with_tile t m.tiles }

-- the mosaic without the tile of the corner
abbrev pub without : Corner → Mosaic → Mosaic
without c m = record m { tiles = filter (λ t. not (same_corner t.corner c)) m.tiles }

-- the mosaic with exactly these sinks
abbrev pub with_sinks : List Point → Mosaic → Mosaic
with_sinks sinks m = record m { sinks = sinks }
