-- When the planes that a tree keeps are right, and which tiles are stale because they keep none (defined by this
-- product).
use Rattle.std.specs.Prelude.{◌≡◌, List, All, IfSome, Contains, Some, map, filter}
use Rattle.std.specs.Option.{is_none}
use Rattle.lattice.specs.Corners.{Corner}
use Rattle.lattice.specs.Mosaic.{Mosaic, IsMosaic}
use Rattle.page_codec.specs.Entries.{EntryValue}
use Rattle.page_codec.specs.Roots.{RootValue}
use Rattle.tile_flood.specs.Kept.{AreKeptOf}
use Rattle.cow_tree.specs.Stored.{IsPage, AreWhole, plane_bytes, mosaic_of_tiles, KeptPlanes, StoredTile, Stored, corners_of_stored}

-- Levels and labels are whole pages. Joined and cut to length they are a valid labelling of the corner's tile in the
-- mosaic.
pub record AreRight (m : Mosaic) (c : Corner) (kept : KeptPlanes) : Type 0 where
  pub levels : All IsPage kept.levels
  pub labels : All IsPage kept.labels
  pub labelling : AreKeptOf m c (plane_bytes m.side kept.levels) (plane_bytes m.side kept.labels)

-- The planes that each tile keeps are right.
abbrev pub KeepRight : Mosaic → List StoredTile → Type 0
KeepRight m tiles = All (λ t. IfSome t.kept (AreRight m t.corner)) tiles

-- the mosaic of what is stored
abbrev pub mosaic_stored : Stored → Mosaic
mosaic_stored s = mosaic_of_tiles s.side s.sinks s.tiles

-- The stored tiles are the tiles of a mosaic, and the planes that each keeps are right.
pub record KeepsRight (s : Stored) : Type 0 where
  pub pages : AreWhole s.tiles
  pub valid : IsMosaic (mosaic_stored s)
  pub kept : KeepRight (mosaic_stored s) s.tiles

-- The corner's tile keeps levels and labels, and they are right.
pub record IsFresh (s : Stored) (c : Corner) : Type 0 where
  pub tile : StoredTile
  pub stored : Contains s.tiles tile
  pub corner : tile.corner ≡ c
  pub kept : KeptPlanes
  pub keeps : tile.kept ≡ Some kept
  pub right : AreRight (mosaic_stored s) c kept

-- the corners of the tiles that keep no planes, in order
abbrev pub stale_corners : List StoredTile → List Corner
stale_corners tiles = corners_of_stored (filter (λ t. is_none t.kept) tiles)

-- the same, by a root's entries
abbrev pub stale_among : List EntryValue → List Corner
stale_among entries = map (λ e. e.corner) (filter (λ e. is_none e.kept) entries)

abbrev pub stale_in : RootValue → List Corner
stale_in root = stale_among root.entries
