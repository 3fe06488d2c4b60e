-- The contents of a store's disk, without their locations: the planes of its tiles, page by page (defined by this
-- product).
use Rattle.std.specs.Prelude.{◌≡◌, ℕ, ℤ, ◌+◌, ◌*◌, ◌<◌, List, [], All, length, map, filter, not, take, drop, zero, suc, ◌∷◌, Option, None, if◌then◌else◌, slice_set}
use Rattle.std.specs.List.{concat}
use Rattle.page_codec.specs.declared.version.Version.{Version}
use Rattle.lattice.specs.Corners.{Corner, same_corner, is_before}
use Rattle.lattice.specs.declared.point.Point.{Point}
use Rattle.lattice.specs.Mosaic.{Mosaic}
use Rattle.page_codec.specs.Formats.{Format}
use Rattle.page_codec.specs.Numbers.{padded}
use Rattle.page_codec.specs.Sizes.{pages_of}
use Rattle.hgt.specs.Bytes.{samples_in}

-- the pages of a plane, in order
abbrev pub PlanePages : Type 0
PlanePages = List (List ℕ)

-- the levels and labels of a tile that keeps them
pub record KeptPlanes : Type 0 where
  pub levels : PlanePages
  pub labels : PlanePages

pub record StoredTile : Type 0 where
  pub corner : Corner
  pub heights : PlanePages
  pub kept : Option KeptPlanes

-- the layout's version, the side of the tiles, the capacity in tiles, the commit number, the count of accepted
-- commands, the declared sinks, and the tiles in order
pub record Stored : Type 0 where
  pub version : Version
  pub side : ℕ
  pub capacity : ℕ
  pub number : ℕ
  pub count : ℕ
  pub sinks : List Point
  pub tiles : List StoredTile

-- the contents after formatting
abbrev pub no_tiles : Format → Stored
no_tiles f = record { version = f.version; side = f.side; capacity = f.capacity; number = 1; count = 0; sinks = []; tiles = [] }

-- the contents after the next commit, with these sinks, these tiles and this count of commands
abbrev pub next_commit : Stored → List Point → List StoredTile → ℕ → Stored
next_commit was sinks tiles count = record was { number = was.number + 1; count = count; sinks = sinks; tiles = tiles }

-- a page has 4096 bytes
pub record IsPage (page : List ℕ) : Type 0 where
  pub whole : length page ≡ 4096
  pub bytes : All (λ b. b < 256) page

-- Each page of heights is a whole page.
abbrev pub AreWhole : List StoredTile → Type 0
AreWhole tiles = All (λ t. All IsPage t.heights) tiles

-- the values of a plane, two bytes each: the first bytes of its joined pages; further bytes aren't read
abbrev pub plane_bytes : ℕ → PlanePages → List ℕ
plane_bytes n pages = take (2 * (n * n)) (concat pages)

-- the bytes of a plane as this many pages, the last padded with zeros
abbrev pub pages_of_bytes : ℕ → List ℕ → PlanePages
pages_of_bytes zero bytes = []
pages_of_bytes (suc count) bytes = padded 4096 (take 4096 bytes) ∷ pages_of_bytes count (drop 4096 bytes)

-- A plane's bytes are read back from its pages.
abbrev pub PlanesReadBack : Type 0
PlanesReadBack = (n : ℕ) (bytes : List ℕ) → length bytes ≡ 2 * (n * n) → plane_bytes n (pages_of_bytes (pages_of n) bytes) ≡ bytes

-- the samples of a plane of heights
abbrev pub samples_of_plane : ℕ → PlanePages → List ℤ
samples_of_plane n pages = samples_in (plane_bytes n pages)

-- the tiles as tiles of a mosaic with these sinks
abbrev pub mosaic_of_tiles : ℕ → List Point → List StoredTile → Mosaic
mosaic_of_tiles n sinks tiles = record { side = n; sinks = sinks; tiles = map (λ t. record { corner = t.corner; samples = samples_of_plane n t.heights }) tiles }

-- How staging changes the tiles.

-- the tile with this page of heights at the index if it is the corner's, else unchanged
abbrev pub with_page_in : Corner → ℕ → List ℕ → StoredTile → StoredTile
with_page_in c i page t = if same_corner t.corner c then record t { heights = slice_set t.heights i page } else t

abbrev pub with_page : Corner → ℕ → List ℕ → List StoredTile → List StoredTile
with_page c i page tiles = map (with_page_in c i page) tiles

-- the tiles without the corner's
abbrev pub without_tile : Corner → List StoredTile → List StoredTile
without_tile c tiles = filter (λ t. not (same_corner t.corner c)) tiles

-- the tiles with one more, in order
abbrev pub with_tile : StoredTile → List StoredTile → List StoredTile
with_tile new [] = new ∷ []
with_tile new (t ∷ rest) = if is_before new.corner t.corner then new ∷ (t ∷ rest) else t ∷ with_tile new rest

-- the corners with one more, in order
abbrev pub with_corner : Corner → List Corner → List Corner
with_corner new [] = new ∷ []
with_corner new (c ∷ rest) = if is_before new c then new ∷ (c ∷ rest) else c ∷ with_corner new rest

-- a tile without kept levels and labels
abbrev pub stale_tile : Corner → PlanePages → StoredTile
stale_tile c pages = record { corner = c; heights = pages; kept = None }

-- the tile, made stale if it is the corner's
abbrev pub made_stale_in : Corner → StoredTile → StoredTile
made_stale_in c t = if same_corner t.corner c then stale_tile t.corner t.heights else t

abbrev pub made_stale : Corner → List StoredTile → List StoredTile
made_stale c tiles = map (made_stale_in c) tiles

abbrev pub corners_of_stored : List StoredTile → List Corner
corners_of_stored tiles = map (λ t. t.corner) tiles
