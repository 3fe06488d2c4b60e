-- The present tiles of a mosaic.
use Rattle.std.specs.Prelude.{ℕ, ◌*◌, List, length, map}
use Rattle.flow_d8.specs.Prelude.{Corner, Mosaic, Tile}

-- the corners of the present tiles, in order
abbrev pub corners_of : Mosaic → List Corner
corners_of m = map (λ (t : Tile). t.corner) m.tiles

-- the number of samples of the present tiles
abbrev pub sample_count : Mosaic → ℕ
sample_count m = length (corners_of m) * (m.side * m.side)
