-- The mosaic: a finite map from the corners of the present tiles to their samples, and its declared sinks (SRTM
-- documentation for a tile's samples and the void; the mosaic is this product's own).
use Rattle.std.specs.Prelude.{◌≡◌, ℕ, ◌*◌, ◌≤◌, ℤ, negsuc, pos, ◌≤ℤ◌, Bool, IsTrue, List, All, length, Option, Some, None, [], ◌∷◌, if◌then◌else◌}
use Rattle.std.specs.Ordering.{int_eq}
use Rattle.std.specs.List.{list_any, AllAdjacentBelow}
use Rattle.lattice.specs.Corners.{Corner, is_corner, same_corner}
use Rattle.lattice.specs.Lattice.{IsBefore, holds}
use Rattle.lattice.specs.Limits.{largest_side, most_sinks}
use Rattle.lattice.specs.Points.{is_point_before}
use Rattle.lattice.specs.declared.point.Point.{Point}

-- the sample of a data void
abbrev pub void : ℤ
void = negsuc 32767

abbrev pub is_void : ℤ → Bool
is_void sample = int_eq sample void

-- a tile: its corner, and its samples in metres, row by row from the north, west first
pub record Tile : Type 0 where
  pub corner : Corner
  pub samples : List ℤ

-- a mosaic: its tiles in their order, no corner twice, so that each finite map is one such list; and the declared sinks
-- in their order
pub record Mosaic : Type 0 where
  pub side : ℕ
  pub tiles : List Tile
  pub sinks : List Point

-- a number of 16 bits
abbrev pub IsSample : ℤ → Type 0
IsSample s = (void ≤ℤ s) × (s ≤ℤ pos 32767)

pub record IsTile (n : ℕ) (t : Tile) : Type 0 where
  pub corner : IsTrue (is_corner t.corner)
  pub whole : length t.samples ≡ n * n
  pub samples : All IsSample t.samples

-- The tile of some corner, present or not, has the point.
abbrev pub IsHeld : ℕ → Point → Type 0
IsHeld n p = (c : Corner) × (IsTrue (is_corner c) × IsTrue (holds n c p))

-- Sinks are in the order of points, no point twice, at most 16, each a point of some corner's tile.
pub record AreSinks (n : ℕ) (sinks : List Point) : Type 0 where
  pub few : length sinks ≤ most_sinks
  pub in_order : AllAdjacentBelow (λ p q. IsTrue (is_point_before p q)) sinks (length sinks)
  pub held : All (IsHeld n) sinks

-- A mosaic has whole tiles in the order of their corners, no corner twice, and sinks.
pub record IsMosaic (m : Mosaic) : Type 0 where
  pub side_low : 3 ≤ m.side
  pub side_high : m.side ≤ largest_side
  pub tiles : All (IsTile m.side) m.tiles
  pub in_order : AllAdjacentBelow (λ a b. IsBefore a.corner b.corner) m.tiles (length m.tiles)
  pub sinks : AreSinks m.side m.sinks

-- no tile is present and no sink declared
abbrev pub empty_mosaic : ℕ → Mosaic
empty_mosaic n = record { side = n; tiles = []; sinks = [] }

-- some tile has this corner
abbrev pub is_present : Mosaic → Corner → Bool
is_present m c = list_any (λ t. same_corner t.corner c) m.tiles

-- the samples of the tile with this corner
abbrev pub samples_among : List Tile → Corner → Option (List ℤ)
samples_among [] c = None
samples_among (t ∷ rest) c = if same_corner t.corner c then Some t.samples else samples_among rest c

abbrev pub samples_of : Mosaic → Corner → Option (List ℤ)
samples_of m c = samples_among m.tiles c
