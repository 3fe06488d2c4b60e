-- The cells of a flood: for each point its label and its level, or its height while it has no label.
use Rattle.std.specs.Prelude.{◌≡◌, ◌≢◌, ℕ, ◌<◌, ℤ, IsTrue, false, List, map, length, slice_index_or, nat_eq, if◌then◌else◌}
use Rattle.lattice.specs.Mosaic.{void}
use Rattle.tile_flood.specs.declared.cells.Cell.{Cell}
use Rattle.labelling.specs.Labelling.{NO_LABEL}
use Rattle.labelling.specs.Blocks.{is_marked}

-- the label of a ground point that hasn't got one yet
abbrev pub OPEN : ℕ
OPEN = 0xFFFD

-- the level and the label of the point; those of a void while it has none
abbrev pub level_of : Cell → ℤ
level_of cell = if nat_eq cell.label OPEN then void else cell.level

abbrev pub label_of : Cell → ℕ
label_of cell = if nat_eq cell.label OPEN then NO_LABEL else cell.label

abbrev pub levels_of : List Cell → List ℤ
levels_of cells = map level_of cells

abbrev pub labels_of : List Cell → List ℕ
labels_of cells = map label_of cells

-- the cells belong to points with these heights: an open point has its height, which isn't void, and a point with NO_LABEL is
-- void
pub record AreCells (heights : List ℤ) (cells : List Cell) : Type 0 where
  pub whole : length cells ≡ length heights
  pub ground : (e : ℕ) (d : Cell) → e < length cells → (slice_index_or cells e d).label ≡ OPEN → ((slice_index_or cells e d).level ≡ slice_index_or heights e void) × (slice_index_or heights e void ≢ void)
  pub gaps : (e : ℕ) (d : Cell) → e < length cells → (slice_index_or cells e d).label ≡ NO_LABEL → slice_index_or heights e void ≡ void

-- the cell of point e before a flood
pub record IsFresh (heights : List ℤ) (e : ℕ) (cell : Cell) : Type 0 where
  pub level : cell.level ≡ slice_index_or heights e void
  pub ground : IsTrue (is_marked heights e) → cell.label ≡ OPEN
  pub gap : is_marked heights e ≡ false → cell.label ≡ NO_LABEL

-- a marked point can have this level and this label
abbrev pub IsMark : ℤ → ℕ → Type 0
IsMark level label = (level ≢ void) × (label ≢ NO_LABEL) × (label ≢ OPEN)
