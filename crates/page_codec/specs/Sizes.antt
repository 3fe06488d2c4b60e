-- The sizes of planes and stores, in pages and sectors (defined by this product).
use Rattle.std.specs.Prelude.{ℕ, ◌+◌, ◌*◌, ◌/◌, ◌≤◌}
use Rattle.page_codec.specs.declared.version.Version.{Version}
use Rattle.page_codec.specs.declared.version.Version.TheVariants.{One, Two}
use Rattle.page_codec.specs.Formats.{Format}

-- the pages of a tile's plane: 4096 bytes each, two bytes a point
abbrev pub pages_of : ℕ → ℕ
pages_of side = (2 * (side * side) + 4095) / 4096

-- The plane fits into these pages, and into no fewer.
pub record AreLeastPages (side pages : ℕ) : Type 0 where
  pub enough : 2 * (side * side) ≤ 4096 * pages
  pub least : (fewer : ℕ) → 2 * (side * side) ≤ 4096 * fewer → pages ≤ fewer

-- the number of a plane's index pages: none in the first version; in the second each lists 1024 pages
abbrev pub index_pages_by : Version → ℕ → ℕ
index_pages_by One pages = 0
index_pages_by Two pages = (pages + 1023) / 1024

abbrev pub index_pages_of : Format → ℕ
index_pages_of f = index_pages_by f.version (pages_of f.side)

-- how many page numbers a record lists: those of the plane's pages, or of its index pages
abbrev pub listed_by : Version → ℕ → ℕ
listed_by One pages = pages
listed_by Two pages = (pages + 1023) / 1024

abbrev pub listed_in : Format → ℕ
listed_in f = listed_by f.version (pages_of f.side)

-- the pages of a plane, with its record and index pages
abbrev pub plane_pages_of : Format → ℕ
plane_pages_of f = 1 + index_pages_of f + pages_of f.side

-- two gates and two roots, and 4 * capacity + 2 planes: two planes of a tile in each of two mosaics, and two more
-- planes
abbrev pub sectors_asked : Format → ℕ
sectors_asked f = 4 + (4 * f.capacity + 2) * plane_pages_of f

-- the same in the first version
abbrev pub sectors_of : (side capacity : ℕ) → ℕ
sectors_of side capacity = 4 + (4 * capacity + 2) * (1 + pages_of side)
