-- Where the planes are on a disk, and what an image of it stores (defined by this product).
use Rattle.std.specs.Prelude.{◌≡◌, ℕ, ◌<◌, ◌≤◌, ◌^◌, List, All, length, slice_index, map, Option, Some, None, IfSome}
use Rattle.disk.specs.Disk.{Image}
use Rattle.page_codec.specs.Formats.{Format, IsFormat, IsKnown}
use Rattle.page_codec.specs.Records.{part_of, record_bytes}
use Rattle.page_codec.specs.Roots.{RootValue, format_of}
use Rattle.page_codec.specs.Sizes.{sectors_asked}
use Rattle.page_codec.specs.declared.version.Version.{Version}
use Rattle.page_codec.specs.declared.version.Version.TheVariants.{One, Two}
use Rattle.roots.specs.Opening.{HoldsStore}
use Rattle.page_map.specs.declared.locations.KeptLocations.{KeptLocations}
use Rattle.page_map.specs.Locations.{PlaneLocation, IsWholePlane, pages_behind}
use Rattle.page_map.specs.TileLocations.{TileLocation, KeepsPageRule}
use Rattle.cow_tree.specs.Entries.{entry_of}
use Rattle.cow_tree.specs.Stored.{PlanePages, KeptPlanes, StoredTile, Stored, no_tiles}

-- the page numbers in a plane's record: its pages or, in the second version, its index pages
abbrev pub listed_by : Version → PlaneLocation → List ℕ
listed_by One p = p.pages
listed_by Two p = p.index_pages

-- On this image index page t lists the plane's pages from number 1024 * t on.
abbrev pub IsIndexed : Image → PlaneLocation → ℕ → Type 0
IsIndexed image p t = image (slice_index p.index_pages t) ≡ record_bytes (part_of t p.pages)

-- The plane is whole, and on this image its record and index pages list its pages.
pub record HasRecord (format : Format) (image : Image) (p : PlaneLocation) : Type 0 where
  pub whole : IsWholePlane format p
  pub each : All (λ q. q < 2 ^ 32) (pages_behind p)
  pub listed : image p.record_page ≡ record_bytes (listed_by format.version p)
  pub indexed : (t : ℕ) → t < length p.index_pages → IsIndexed image p t

pub record HaveKeptRecords (format : Format) (image : Image) (k : KeptLocations) : Type 0 where
  pub levels : HasRecord format image k.levels
  pub labels : HasRecord format image k.labels

pub record HasRecords (format : Format) (image : Image) (t : TileLocation) : Type 0 where
  pub heights : HasRecord format image t.heights
  pub kept : IfSome t.kept (HaveKeptRecords format image)

-- An image that opening accepts: it has this current root and room for its store, and the tiles of the root's entries
-- are at these locations.
pub record IsLaidOut (sectors : ℕ) (image : Image) (root : RootValue) (tiles : List TileLocation) : Type 0 where
  pub store : HoldsStore sectors image root
  pub entries : map entry_of tiles ≡ root.entries
  pub records : All (HasRecords (format_of root) image) tiles
  pub page_rule : KeepsPageRule sectors tiles

-- the contents at these locations
abbrev pub plane_in : Image → PlaneLocation → PlanePages
plane_in image p = map image p.pages

abbrev pub kept_in : Image → Option KeptLocations → Option KeptPlanes
kept_in image None = None
kept_in image (Some k) = Some (record { levels = plane_in image k.levels; labels = plane_in image k.labels })

abbrev pub tile_in : Image → TileLocation → StoredTile
tile_in image t = record { corner = t.corner; heights = plane_in image t.heights; kept = kept_in image t.kept }

abbrev pub stored_in : Image → RootValue → List TileLocation → Stored
stored_in image root tiles = record {
  version = root.version;
  side = root.side;
  capacity = root.capacity;
  number = root.number;
  count = root.count;
  sinks = root.sinks;
  tiles = map (tile_in image) tiles;
}

-- On a disk of this many sectors the image has this current root, tiles at these locations, and these contents.
pub record StoresAt (sectors : ℕ) (root : RootValue) (tiles : List TileLocation) (stored : Stored) (image : Image) : Type 0 where
  pub laid_out : IsLaidOut sectors image root tiles
  pub stands : stored ≡ stored_in image root tiles

-- An image of a disk of this many sectors stores this content.
abbrev pub Stands : ℕ → Image → Stored → Type 0
Stands sectors image stored = (root : RootValue) × (tiles : List TileLocation) × StoresAt sectors root tiles stored image

-- An image stores at most one content.
abbrev pub StandsForOne : Type 0
StandsForOne = (sectors : ℕ) (image : Image) (a b : Stored) → Stands sectors image a → Stands sectors image b → a ≡ b

-- Some image stores no tiles, on each disk with room for the format.
abbrev pub NoTilesStand : Type 0
NoTilesStand = (sectors : ℕ) (format : Format) → IsFormat format → IsKnown format.version → sectors_asked format ≤ sectors
    → (image : Image) × Stands sectors image (no_tiles format)
