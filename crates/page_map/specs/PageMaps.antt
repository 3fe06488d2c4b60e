-- Which pages store which planes: as committed, and as the next commit will store them (defined by this product).
use Rattle.std.specs.Prelude.{◌≡◌, ℕ, ◌≤◌, ◌<◌, ◌/◌, ◌==◌, Bool, IsTrue, List, [], ◌∷◌, All, Contains, length, map, filter, not, Option, Some, None, IfSome, if◌then◌else◌}
use Rattle.std.specs.List.{AllAdjacentBelow, list_any}
use Rattle.lattice.specs.Corners.{Corner, same_corner, is_before, is_corner}
use Rattle.lattice.specs.Lattice.{IsBefore}
use Rattle.page_codec.specs.Formats.{Format}
use Rattle.page_codec.specs.Sizes.{index_pages_of, sectors_asked}
use Rattle.page_map.specs.declared.locations.KeptLocations.{KeptLocations}
use Rattle.page_map.specs.declared.locations.TilePlanes.{TilePlanes}
use Rattle.page_map.specs.Locations.{PlaneLocation, IsWholePlane, moved_plane, pages_of_plane}
use Rattle.page_map.specs.TileLocations.{TileLocation, KeepsPageRule, pages_of_kept, reached}

-- the number of the disk's sectors and the store's format; the tiles as committed and as staged
pub record PageMapValue : Type 0 where
  pub sectors : ℕ
  pub format : Format
  pub committed : List TileLocation
  pub staged : List TileLocation

-- the page map without committed or staged tiles
abbrev pub no_tiles_mapped : (sectors : ℕ) → Format → PageMapValue
no_tiles_mapped sectors format = record { sectors = sectors; format = format; committed = []; staged = [] }

-- the corner's tile, with these planes
abbrev pub tile_at : Corner → TilePlanes → TileLocation
tile_at c planes = record { corner = c; heights = planes.heights; kept = planes.kept }

abbrev pub corners_of_locations : List TileLocation → List Corner
corners_of_locations tiles = map (λ t. t.corner) tiles

-- Some tile has this corner.
abbrev pub IsLocated : Corner → List TileLocation → Type 0
IsLocated c tiles = Contains (corners_of_locations tiles) c

pub record AreWholeKept (format : Format) (k : KeptLocations) : Type 0 where
  pub levels : IsWholePlane format k.levels
  pub labels : IsWholePlane format k.labels

-- each plane of the tile has all its pages
pub record IsWholeTile (format : Format) (t : TileLocation) : Type 0 where
  pub heights : IsWholePlane format t.heights
  pub kept : IfSome t.kept (AreWholeKept format)

-- Whole tiles with corners in order, at most as many as the capacity, that keep the page rule.
pub record AreMapped (sectors : ℕ) (format : Format) (tiles : List TileLocation) : Type 0 where
  pub corners : All (λ t. IsTrue (is_corner t.corner)) tiles
  pub in_order : AllAdjacentBelow (λ a b. IsBefore a.corner b.corner) tiles (length tiles)
  pub room : length tiles ≤ format.capacity
  pub whole : All (IsWholeTile format) tiles
  pub page_rule : KeepsPageRule sectors tiles

-- The committed tiles don't reach the page.
pub record IsFresh (page_map : PageMapValue) (p : ℕ) : Type 0 where
  pub low : 4 ≤ p
  pub high : p < page_map.sectors
  pub unreached : ¬ Contains (reached page_map.committed) p

pub record IsPageMap (page_map : PageMapValue) : Type 0 where
  pub size : sectors_asked page_map.format ≤ page_map.sectors
  pub committed : AreMapped page_map.sectors page_map.format page_map.committed
  pub staged : AreMapped page_map.sectors page_map.format page_map.staged

-- Nothing is staged.
abbrev pub IsClean : PageMapValue → Type 0
IsClean page_map = page_map.staged ≡ page_map.committed

-- each staged tile of another corner is a committed one
abbrev pub ChangesOnlyAt : List Corner → PageMapValue → Type 0
ChangesOnlyAt corners page_map = (t : TileLocation) → Contains page_map.staged t → ¬ Contains corners t.corner → Contains page_map.committed t

-- the corner's heights are staged: their record isn't committed
abbrev pub HasFreshHeights : Corner → PageMapValue → Type 0
HasFreshHeights c page_map = (t : TileLocation) × (Contains page_map.staged t × (t.corner ≡ c) × IsFresh page_map t.heights.record_page)

-- No committed tile reaches the page.
abbrev pub is_unreached : List TileLocation → ℕ → Bool
is_unreached committed page = not (list_any (λ p. p == page) (reached committed))

-- the page, if the test is true
abbrev pub page_if : Bool → ℕ → Option ℕ
page_if holds page = if holds then Some page else None

abbrev pub is_at : Corner → TileLocation → Bool
is_at c t = same_corner t.corner c

-- the tiles with one more, in order
abbrev pub with_tile_location : TileLocation → List TileLocation → List TileLocation
with_tile_location new [] = new ∷ []
with_tile_location new (t ∷ rest) = if is_before new.corner t.corner then new ∷ (t ∷ rest) else t ∷ with_tile_location new rest

-- the tiles without the corner's
abbrev pub without_location : Corner → List TileLocation → List TileLocation
without_location c tiles = filter (λ t. not (is_at c t)) tiles

-- the tile, with these kept planes or none, if it is the corner's
abbrev pub other_kept_in : Corner → Option KeptLocations → TileLocation → TileLocation
other_kept_in c kept t = if is_at c t then record t { kept = kept } else t

abbrev pub other_kept : Corner → Option KeptLocations → List TileLocation → List TileLocation
other_kept c kept tiles = map (other_kept_in c kept) tiles

-- the tile with page i of its heights, its index page and the record at these pages, if it is the corner's
abbrev pub with_page_location_in : (c : Corner) (i page index_page record_page : ℕ) → TileLocation → TileLocation
with_page_location_in c i page index_page record_page t =
    if is_at c t then record t { heights = moved_plane i page index_page record_page t.heights } else t

abbrev pub with_page_location : (c : Corner) (i page index_page record_page : ℕ) → List TileLocation → List TileLocation
with_page_location c i page index_page record_page tiles = map (with_page_location_in c i page index_page record_page) tiles

-- the tile with the record of its heights at this page, if it is the corner's
abbrev pub with_record_in : (c : Corner) (record_page : ℕ) → TileLocation → TileLocation
with_record_in c record_page t = if is_at c t then record t { heights = record (t.heights) { record_page = record_page } } else t

abbrev pub with_record : (c : Corner) (record_page : ℕ) → List TileLocation → List TileLocation
with_record c record_page tiles = map (with_record_in c record_page) tiles

-- Page i of the corner's heights may be written at this page. No committed tile has it, its index page or the record of
-- the heights. Nothing else has changed.
pub record IsRewritten (c : Corner) (i page : ℕ) (old new : PageMapValue) : Type 0 where
  pub record_page : ℕ
  pub index_page : ℕ
  pub fresh_record : IsFresh new record_page
  pub fresh_index : i / 1024 < index_pages_of old.format → IsFresh new index_page
  pub fresh_page : IsFresh new page
  pub changed : new ≡ record old { staged = with_page_location c i page index_page record_page old.staged }

-- The record of the corner's heights has a fresh page. Nothing else has changed.
pub record IsPrepared (c : Corner) (old new : PageMapValue) : Type 0 where
  pub record_page : ℕ
  pub fresh_record : IsFresh new record_page
  pub changed : new ≡ record old { staged = with_record c record_page old.staged }

-- The corner's tile is new, with fresh pages for its heights.
pub record IsAdded (c : Corner) (old new : PageMapValue) : Type 0 where
  pub location : PlaneLocation
  pub whole : IsWholePlane old.format location
  pub fresh : All (IsFresh new) (pages_of_plane location)
  pub changed : new ≡ record old { staged = with_tile_location (record { corner = c; heights = location; kept = None }) old.staged }

-- The corner's tile has its levels and labels on fresh pages. Nothing else has changed.
pub record AreKept (c : Corner) (old new : PageMapValue) : Type 0 where
  pub locations : KeptLocations
  pub whole : AreWholeKept old.format locations
  pub fresh : All (IsFresh new) (pages_of_kept (Some locations))
  pub changed : new ≡ record old { staged = other_kept c (Some locations) old.staged }
