-- Corners within range and a changed sample, for private contracts and tables in memory.
use Rattle.std.specs.Prelude.{ℕ, ℤ, IsTrue, if◌then◌else◌, List, All, map, slice_set}
use Rattle.lattice.specs.Corners.{Corner, is_corner, same_corner}
use Rattle.lattice.specs.Mosaic.{Tile, Mosaic}

-- All corners are in the range of corners.
abbrev pub AreCorners : List Corner → Type 0
AreCorners corners = All (λ c. IsTrue (is_corner c)) corners

-- the tile, with this sample at the index if it is the corner's
abbrev pub with_sample_in : Corner → ℕ → ℤ → Tile → Tile
with_sample_in c i s t = if same_corner t.corner c then record t { samples = slice_set t.samples i s } else t

-- the mosaic with this sample at the index of the corner's tile
abbrev pub with_sample : Corner → ℕ → ℤ → Mosaic → Mosaic
with_sample c i s m = record m { tiles = map (with_sample_in c i s) m.tiles }
