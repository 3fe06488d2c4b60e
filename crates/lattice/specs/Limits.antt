-- The size limits of a mosaic.
use Rattle.std.specs.Prelude.{ℕ, ◌≤◌}

-- samples along the edge of an SRTM1 tile (SRTM documentation)
abbrev pub largest_side : ℕ
largest_side = 3601

-- the most tiles of a mosaic (defined by this product)
abbrev pub most_tiles : ℕ
most_tiles = 240

-- the most sinks of a mosaic (defined by this product)
abbrev pub most_sinks : ℕ
most_sinks = 16

-- A tile may have this many samples along each edge.
abbrev pub IsSide : ℕ → Type 0
IsSide n = (3 ≤ n) × (n ≤ largest_side)
