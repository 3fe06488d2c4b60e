-- Planes upgraded to the second version: their data pages stay, and their listing pages are others (defined by this
-- product).
use Rattle.std.specs.Prelude.{◌≡◌, ℕ, List, [], ◌++◌, All, length, map, Option, Some, None, IfSome}
use Rattle.std.specs.List.{flat_map}
use Rattle.lattice.specs.Corners.{Corner}
use Rattle.page_codec.specs.Formats.{upgraded}
use Rattle.page_codec.specs.Sizes.{pages_of}
use Rattle.page_map.specs.declared.locations.KeptLocations.{KeptLocations}
use Rattle.page_map.specs.declared.locations.TilePlanes.{TilePlanes}
use Rattle.page_map.specs.PageMaps.{PageMapValue, IsClean, IsFresh}
use Rattle.page_map.specs.Locations.{PlaneLocation, listing_of}
use Rattle.page_map.specs.TileLocations.{TileLocation}

-- the data pages of levels and labels, and of a tile's planes, without listing pages
pub record KeptData : Type 0 where
  pub levels : List ℕ
  pub labels : List ℕ

pub record TileData : Type 0 where
  pub corner : Corner
  pub heights : List ℕ
  pub kept : Option KeptData

abbrev pub data_of_kept : Option KeptLocations → Option KeptData
data_of_kept None = None
data_of_kept (Some k) = Some (record { levels = k.levels.pages; labels = k.labels.pages })

abbrev pub data_of : TileLocation → TileData
data_of t = record { corner = t.corner; heights = t.heights.pages; kept = data_of_kept t.kept }

-- the listing pages of kept planes, of a tile and of tiles: records and index pages
abbrev pub listing_of_kept : Option KeptLocations → List ℕ
listing_of_kept None = []
listing_of_kept (Some k) = listing_of k.levels ++ listing_of k.labels

abbrev pub listing_of_tile : TileLocation → List ℕ
listing_of_tile t = listing_of t.heights ++ listing_of_kept t.kept

abbrev pub listings : List TileLocation → List ℕ
listings tiles = flat_map listing_of_tile tiles

-- Planes of tiles of this side have all their data pages.
abbrev pub HasAllPages : ℕ → PlaneLocation → Type 0
HasAllPages side p = length p.pages ≡ pages_of side

pub record KeptHaveAllPages (side : ℕ) (k : KeptLocations) : Type 0 where
  pub levels : HasAllPages side k.levels
  pub labels : HasAllPages side k.labels

pub record HaveAllPages (side : ℕ) (planes : TilePlanes) : Type 0 where
  pub heights : HasAllPages side planes.heights
  pub kept : IfSome planes.kept (KeptHaveAllPages side)

-- The page map is of the second version and has the same data pages. No committed tile reaches its listing pages.
pub record IsUpgraded (old new : PageMapValue) : Type 0 where
  pub sectors : new.sectors ≡ old.sectors
  pub format : new.format ≡ upgraded old.format
  pub clean : IsClean new
  pub stays : map data_of new.committed ≡ map data_of old.committed
  pub fresh : All (IsFresh old) (listings new.committed)
