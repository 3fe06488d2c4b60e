-- Which parts of the staged tiles are on the disk already.
use Rattle.std.specs.Prelude.{◌≡◌, ℕ, ◌*◌, ◌<◌, false, List, All, IfSome, length, slice_index, take, drop, filter}
use Rattle.disk.specs.Disk.{Image}
use Rattle.page_codec.specs.declared.version.Version.{Version}
use Rattle.page_codec.specs.declared.version.Version.TheVariants.{One, Two}
use Rattle.page_codec.specs.Formats.{Format}
use Rattle.page_codec.specs.Numbers.{padded}
use Rattle.page_codec.specs.Records.{record_bytes}
use Rattle.page_map.specs.Locations.{PlaneLocation}
use Rattle.page_map.specs.TileLocations.{TileLocation}
use Rattle.page_map.specs.declared.locations.KeptLocations.{KeptLocations}
use Rattle.page_map.specs.PageMaps.{PageMapValue, is_unreached}
use Rattle.page_map.specs.Upgraded.{listings}
use Rattle.cow_tree.specs.Layout.{IsIndexed, listed_by}

-- Each listing page of the plane that these tiles reach is on this image.
pub record IsListedBy (format : Format) (tiles : List TileLocation) (image : Image) (p : PlaneLocation) : Type 0 where
  pub listed : is_unreached tiles p.record_page ≡ false → image p.record_page ≡ record_bytes (listed_by format.version p)
  pub indexed : (t : ℕ) → t < length p.index_pages → is_unreached tiles (slice_index p.index_pages t) ≡ false → IsIndexed image p t

pub record AreListedBy (format : Format) (tiles : List TileLocation) (image : Image) (k : KeptLocations) : Type 0 where
  pub levels : IsListedBy format tiles image k.levels
  pub labels : IsListedBy format tiles image k.labels

pub record IsTileListed (format : Format) (committed : List TileLocation) (image : Image) (t : TileLocation) : Type 0 where
  pub heights : IsListedBy format committed image t.heights
  pub kept : IfSome t.kept (AreListedBy format committed image)

-- The listing pages of staged planes that committed tiles reach are written; a commit writes the others.
abbrev pub AreStaged : (format : Format) (committed staged : List TileLocation) (image : Image) → Type 0
AreStaged format committed staged image = All (IsTileListed format committed image) staged

-- page i of a plane with these bytes, padded with zeros
abbrev pub page_of_bytes : List ℕ → ℕ → List ℕ
page_of_bytes bytes i = padded 4096 (take 4096 (drop (4096 * i) bytes))

-- the pages that a commit writes besides the root: listing pages of staged planes that no committed tile reaches
abbrev pub pages_due : PageMapValue → List ℕ
pages_due page_map = filter (is_unreached page_map.committed) (listings page_map.staged)

-- how many index pages are written with a page of a plane
abbrev pub index_page_by : Version → ℕ
index_page_by One = 0
index_page_by Two = 1
