-- The filled levels of the square around a tile while they are being computed.
use Rattle.std.specs.Prelude.{◌≡◌, ℕ, zero, suc, ◌+◌, ◌*◌, ◌<◌, ◌≤◌, ◌⊎◌, ℤ, List, length, slice_index_or}
use Rattle.lattice.specs.Corners.{Corner}
use Rattle.lattice.specs.Mosaic.{Mosaic, void}
use Rattle.flow_d8.specs.Padded.{padded_point}
use Rattle.flow_d8.specs.Preparing.{place_in}
use Rattle.water.specs.TileLevels.{IsLevelOrVoid}
use Rattle.drainage.specs.declared.preparing.Strip.{Strip}

-- row i and column j of the square have the level of their point, or void
abbrev pub IsPlaceRight : Mosaic → Corner → List ℤ → ℕ → ℕ → Type 0
IsPlaceRight m c levels i j = IsLevelOrVoid m (padded_point m.side c i j) (slice_index_or levels (i * (m.side + 4) + j) void)

-- the first rows of the tile's levels are copied into the square
pub record IsTileCopied (rows n : ℕ) (tile levels new_levels : List ℤ) : Type 0 where
  pub whole : length new_levels ≡ length levels
  pub copied : (r s : ℕ) → r < rows → s < n → slice_index_or new_levels (place_in n r s) void ≡ slice_index_or tile (r * n + s) void

-- the rectangle lies within the square around a tile of side n
pub record IsStrip (n : ℕ) (strip : Strip) : Type 0 where
  pub rows : strip.row + strip.rows ≤ n + 4
  pub columns : strip.column + strip.columns ≤ n + 4
  pub some : 0 < strip.columns

-- the strips around the tile: two rows north of it, two south, two columns west, two east
abbrev pub strip_of : ℕ → ℕ → Strip
strip_of n zero = record { row = 0; column = 0; rows = 2; columns = n + 4 }
strip_of n (suc zero) = record { row = n + 2; column = 0; rows = 2; columns = n + 4 }
strip_of n (suc (suc zero)) = record { row = 2; column = 0; rows = n; columns = 2 }
strip_of n _ = record { row = 2; column = n + 2; rows = n; columns = 2 }

-- the first `count` places of the strip, row by row, are right, and places that were right still are
pub record AreFilledTo (m : Mosaic) (c : Corner) (strip : Strip) (count : ℕ) (levels new_levels : List ℤ) : Type 0 where
  pub whole : length new_levels ≡ length levels
  pub kept : (i j : ℕ) → j < m.side + 4 → IsPlaceRight m c levels i j → IsPlaceRight m c new_levels i j
  pub right : (a b : ℕ) → a * strip.columns + b < count → b < strip.columns → IsPlaceRight m c new_levels (strip.row + a) (strip.column + b)

-- the place lies in two rows or columns at the square's edge
abbrev pub IsAround : ℕ → ℕ → ℕ → Type 0
IsAround n i j = (i < 2) ⊎ ((n + 2 ≤ i) ⊎ ((j < 2) ⊎ (n + 2 ≤ j)))

pub record IsFilledAround (m : Mosaic) (c : Corner) (levels new_levels : List ℤ) : Type 0 where
  pub whole : length new_levels ≡ length levels
  pub kept : (i j : ℕ) → j < m.side + 4 → IsPlaceRight m c levels i j → IsPlaceRight m c new_levels i j
  pub right : (i j : ℕ) → i < m.side + 4 → j < m.side + 4 → IsAround m.side i j → IsPlaceRight m c new_levels i j
