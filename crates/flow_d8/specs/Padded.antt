-- The filled levels of a tile and of the points around it, row by row from two rows north and two columns west of the tile.
use Rattle.std.specs.Prelude.{◌≡◌, ℕ, ◌+◌, ◌-◌, ◌*◌, ◌<◌, ℤ, pos, ◌+ℤ◌, ◌-ℤ◌, ◌*ℤ◌, IsTrue, IsFalse, List, length, slice_index_or}
use Rattle.flow_d8.specs.Prelude.{Corner, Mosaic, is_present, void, is_ground, terrain, IsFilledLevel, Point}
use Rattle.flow_d8.specs.declared.preparing.Sides.{Sides}

-- the point in row i and column j of the square around the tile
abbrev pub padded_point : ℕ → Corner → ℕ → ℕ → Point
padded_point n c i j = record {
  y = (c.lat *ℤ pos (n - 1) +ℤ pos (n + 1)) -ℤ pos i;
  x = (c.lon *ℤ pos (n - 1) +ℤ pos j) -ℤ pos 2;
}

-- each place has the filled level of its point, whichever tile has the point; void if it isn't ground
pub record ArePadded (m : Mosaic) (c : Corner) (levels : List ℤ) : Type 0 where
  pub whole : length levels ≡ (m.side + 4) * (m.side + 4)
  pub on_ground : (i j : ℕ) → i < m.side + 4 → j < m.side + 4 → IsTrue (is_ground m (padded_point m.side c i j))
      → IsFilledLevel (terrain m) (padded_point m.side c i j) (slice_index_or levels (i * (m.side + 4) + j) void)
  pub elsewhere : (i j : ℕ) → i < m.side + 4 → j < m.side + 4 → IsFalse (is_ground m (padded_point m.side c i j))
      → slice_index_or levels (i * (m.side + 4) + j) void ≡ void

-- the tiles across the four edges
abbrev pub north_of_tile : Corner → Corner
north_of_tile c = record { lat = c.lat +ℤ pos 1; lon = c.lon }

abbrev pub east_of_tile : Corner → Corner
east_of_tile c = record { lat = c.lat; lon = c.lon +ℤ pos 1 }

abbrev pub south_of_tile : Corner → Corner
south_of_tile c = record { lat = c.lat -ℤ pos 1; lon = c.lon }

abbrev pub west_of_tile : Corner → Corner
west_of_tile c = record { lat = c.lat; lon = c.lon -ℤ pos 1 }

-- `sides` says of each of these tiles whether it is present
pub record AreSides (m : Mosaic) (c : Corner) (sides : Sides) : Type 0 where
  pub north : sides.north ≡ is_present m (north_of_tile c)
  pub east : sides.east ≡ is_present m (east_of_tile c)
  pub south : sides.south ≡ is_present m (south_of_tile c)
  pub west : sides.west ≡ is_present m (west_of_tile c)

-- the corner's tile is present, and these are the levels of the square around it, its sides and the mosaic's sinks
pub record IsPaddedTile (m : Mosaic) (c : Corner) (levels : List ℤ) (sides : Sides) (sinks : List Point) : Type 0 where
  pub present : IsTrue (is_present m c)
  pub levels_are : ArePadded m c levels
  pub sides_are : AreSides m c sides
  pub sinks_are : sinks ≡ m.sinks
