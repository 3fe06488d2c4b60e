-- Corners of tiles, which say where a tile is (SRTM documentation).
use Rattle.std.specs.Prelude.{ℤ, pos, negsuc, int_le, int_lt, Bool, ◌&&◌, ◌||◌}
use Rattle.std.specs.Ordering.{int_eq}

-- a latitude and a longitude in whole degrees, north and east positive
pub record Corner : Type 0 where
  pub lat : ℤ
  pub lon : ℤ

-- latitudes from -90 to 89, longitudes from -180 to 179
abbrev pub is_corner : Corner → Bool
is_corner c = int_le (negsuc 89) c.lat && int_le c.lat (pos 89) && int_le (negsuc 179) c.lon && int_le c.lon (pos 179)

-- the order of tiles: rising latitude, then rising longitude
abbrev pub is_before : Corner → Corner → Bool
is_before a b = int_lt a.lat b.lat || (int_eq a.lat b.lat && int_lt a.lon b.lon)

abbrev pub same_corner : Corner → Corner → Bool
same_corner a b = int_eq a.lat b.lat && int_eq a.lon b.lon
