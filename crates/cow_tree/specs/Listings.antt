-- Listing pages: the records and index pages that list the pages of planes (defined by this product).
use Rattle.std.specs.Prelude.{◌≡◌, ℕ, zero, suc, List, [], ◌∷◌, ◌++◌, All, Option, Some, None, Result, OnOk, map, filter}
use Rattle.std.specs.List.{flat_map}
use Rattle.disk.specs.Disk.{Image}
use Rattle.disk.specs.declared.disk.Disk.{Ghosts}
use Rattle.lattice.specs.declared.refusal.Refusal.{Refusal}
use Rattle.page_codec.specs.Formats.{Format}
use Rattle.page_codec.specs.Records.{part_of, record_bytes}
use Rattle.roots.specs.Roots.{disk_of}
use Rattle.roots.specs.declared.roots.Roots.{Roots}
use Rattle.page_map.specs.declared.locations.KeptLocations.{KeptLocations}
use Rattle.page_map.specs.declared.plane.Plane.{Plane}
use Rattle.page_map.specs.PageMaps.{PageMapValue, is_unreached}
use Rattle.page_map.specs.Locations.{PlaneLocation}
use Rattle.page_map.specs.Planes.{plane_of}
use Rattle.page_map.specs.TileLocations.{TileLocation}
use Rattle.cow_tree.specs.Layout.{listed_by}
use Rattle.cow_tree.specs.OverRoots.{WritesPages}
use Rattle.cow_tree.specs.declared.listings.Listings.{Listings}
use Rattle.cow_tree.specs.declared.listings.Listings.TheVariants as listings

-- a listing page and its bytes
pub record ListingPage : Type 0 where
  pub page : ℕ
  pub bytes : List ℕ

-- the index pages of a plane with these pages, from this number on
abbrev pub index_listing : ℕ → (index_pages pages : List ℕ) → List ListingPage
index_listing t [] pages = []
index_listing t (q ∷ rest) pages = record { page = q; bytes = record_bytes (part_of t pages) } ∷ index_listing (suc t) rest pages

-- the listing pages of a plane, of kept planes, of a tile and of tiles: for each plane the record, then the index pages
abbrev pub plane_listing : Format → PlaneLocation → List ListingPage
plane_listing format p = record { page = p.record_page; bytes = record_bytes (listed_by format.version p) } ∷ index_listing 0 p.index_pages p.pages

abbrev pub kept_listing : Format → Option KeptLocations → List ListingPage
kept_listing format None = []
kept_listing format (Some k) = plane_listing format k.levels ++ plane_listing format k.labels

abbrev pub tile_listing : Format → TileLocation → List ListingPage
tile_listing format t = plane_listing format t.heights ++ kept_listing format t.kept

abbrev pub tiles_listing : Format → List TileLocation → List ListingPage
tiles_listing format tiles = flat_map (tile_listing format) tiles

-- the listing pages of one plane of the tile, none if the tile lacks it
abbrev pub listing_if : Format → Option PlaneLocation → List ListingPage
listing_if format None = []
listing_if format (Some p) = plane_listing format p

abbrev pub named_listing : Format → Plane → TileLocation → List ListingPage
named_listing format plane t = listing_if format (plane_of plane t)

-- the bytes of a plane's listing page, by its number
abbrev pub listing_bytes : Format → PlaneLocation → ℕ → List ℕ
listing_bytes format p zero = record_bytes (listed_by format.version p)
listing_bytes format p (suc t) = record_bytes (part_of t p.pages)

abbrev pub numbers_of : List ListingPage → List ℕ
numbers_of listing = map (λ l. l.page) listing

-- On this image the page has these bytes.
abbrev pub IsOn : Image → ListingPage → Type 0
IsOn image l = image l.page ≡ l.bytes

-- the listing pages that these tiles don't reach
abbrev pub due_among : List TileLocation → List ListingPage → List ListingPage
due_among tiles listing = filter (λ l. is_unreached tiles l.page) listing

-- the tiles whose listing pages are on the disk already: the committed ones, or none
abbrev pub written_before : Listings → PageMapValue → List TileLocation
written_before listings.Due page_map = page_map.committed
written_before listings.All page_map = []

-- The call wrote these pages with their bytes and no others, or the disk refused it.
pub record WritesListing {D T : Type 0} (g : Ghosts D) (listing : List ListingPage) (old new : Roots D g) (result : Result T Refusal) : Type 0 where
  pub pages : WritesPages g (numbers_of listing) old new result
  pub written : g.honest (disk_of new) → OnOk result (All (IsOn (g.seen (disk_of new))) listing)
