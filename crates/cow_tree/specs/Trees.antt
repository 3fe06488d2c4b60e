-- The parts of a tree that contracts name.
use Rattle.std.specs.Prelude.{◌≡◌, ◌⊎◌, ℕ, Bool, List, Option, length, map, Result, Ok, Err}
use Rattle.disk.specs.Disk.{Image}
use Rattle.disk.specs.declared.disk.Disk.{Ghosts}
use Rattle.lattice.specs.Corners.{Corner}
use Rattle.lattice.specs.declared.point.Point.{Point}
use Rattle.lattice.specs.declared.refusal.Refusal.{Refusal}
use Rattle.lattice.specs.declared.refusal.Refusal.TheVariants as refusal
use Rattle.page_codec.specs.Roots.{RootValue, format_of}
use Rattle.roots.specs.Opening.{OpensAs}
use Rattle.roots.specs.declared.roots.NotOpened.{NotOpened}
use Rattle.roots.specs.declared.slot.Slot.{Slot}
use Rattle.page_map.specs.declared.plane.Plane.{Plane}
use Rattle.cow_tree.specs.Stored.{StoredTile, Stored}
use Rattle.page_map.specs.TileLocations.{TileLocation}
use Rattle.cow_tree.specs.Layout.{tile_in, IsLaidOut}
use Rattle.page_map.specs.PageMaps.{PageMapValue, corners_of_locations, IsClean, HasFreshHeights}
use Rattle.page_map.specs.Planes.{HasPlane}
use Rattle.cow_tree.specs.Staged.{AreStaged, pages_due}
use Rattle.roots.specs.Roots.{IsReady, disk_of as disk_under, root_of as root_under, slot_of as slot_under, has_begun as have_begun, has_failed as have_failed}
use Rattle.cow_tree.specs.OverRoots.{EachStores}
use Rattle.cow_tree.specs.Past.{past_page, on_disk}
use Rattle.cow_tree.specs.declared.tree.Tree.{Tree}

module _ {D : Type 0} {g : Ghosts D} where
  abbrev pub disk_of : Tree D g → D
  disk_of tree = disk_under tree.roots

  -- the current root as last known
  abbrev pub root_of : Tree D g → RootValue
  root_of tree = root_under tree.roots

  -- the slot in which it stands
  abbrev pub slot_of : Tree D g → Slot
  slot_of tree = slot_under tree.roots

  -- which pages store which planes, as committed and as staged
  abbrev pub page_map_of : Tree D g → PageMapValue
  page_map_of tree = tree.page_map

  -- The disk refused a call or a reopening was refused, and no opening has succeeded since.
  abbrev pub has_failed : Tree D g → Bool
  has_failed tree = have_failed tree.roots

  -- A page was written since the last commit or opening.
  abbrev pub has_begun : Tree D g → Bool
  has_begun tree = have_begun tree.roots

  -- the corners of the staged tiles, in order, from memory
  abbrev pub corners_of : Tree D g → List Corner
  corners_of tree = corners_of_locations tree.page_map.staged

  -- the declared sinks as the next commit will have them, in order, from memory
  abbrev pub sinks_of : Tree D g → List Point
  sinks_of tree = tree.sinks.points

  -- the sector that page i of the corner's plane had before the tile went stale, if it is remembered
  abbrev pub past_sector : Tree D g → Corner → Plane → ℕ → Option ℕ
  past_sector tree c plane i = on_disk (g.size (disk_of tree)) (past_page tree.past.tiles.items c plane i)

  -- The corner's tile has this plane.
  abbrev pub Holds : Tree D g → Corner → Plane → Type 0
  Holds tree c plane = HasPlane tree.page_map.staged c plane

  -- Heights of the corner were staged since the last commit.
  abbrev pub HasStaged : Tree D g → Corner → Type 0
  HasStaged tree c = HasFreshHeights c tree.page_map

  -- Nothing is staged.
  abbrev pub IsUnstaged : Tree D g → Type 0
  IsUnstaged tree = IsClean tree.page_map

  -- the number of records and index pages that the next commit writes: those of staged tiles that no committed tile
  -- reaches
  abbrev pub records_due : Tree D g → ℕ
  records_due tree = length (pages_due tree.page_map)

  -- the disk after opening: in the tree, or in the refusal
  abbrev pub disk_after : Result (Tree D g) (NotOpened D) → D
  disk_after (Ok tree) = disk_under tree.roots
  disk_after (Err e) = e.disk

-- the tiles as the next commit will store them
abbrev pub staged_in : {D : Type 0} (g : Ghosts D) → Tree D g → List StoredTile
staged_in g tree = map (tile_in (g.seen (disk_of tree))) tree.page_map.staged

-- The tree stores this content. It hasn't failed, and each image that a stop may leave stores the content at the page
-- map's locations. What the page map has staged is on the disk, except records and index pages that a commit writes.
pub record IsAt {D : Type 0} (g : Ghosts D) (tree : Tree D g) (s : Stored) : Type 0 where
  pub ready : IsReady g tree.roots
  pub each : EachStores g tree.roots tree.page_map.committed s
  pub staged : AreStaged (format_of (root_of tree)) tree.page_map.committed tree.page_map.staged (g.seen (disk_of tree))

-- Opening refuses the image with this refusal, if no call fails and memory suffices: with a refusal of the roots, or
-- Damaged if an entry of the current root names no tile.
abbrev pub IsRefused : ℕ → Image → Refusal → Type 0
IsRefused sectors image why = OpensAs sectors image (Err why)
    ⊎ ((why ≡ refusal.Damaged) × ((root : RootValue) × (OpensAs sectors image (Ok root) × ((tiles : List TileLocation) → ¬ IsLaidOut sectors image root tiles))))

-- Opening may refuse the image with this refusal: the image's refusal, Device or NoMemory.
abbrev pub MayRefuse : ℕ → Image → Refusal → Type 0
MayRefuse sectors image why = (why ≡ refusal.Device) ⊎ ((why ≡ refusal.NoMemory) ⊎ IsRefused sectors image why)
