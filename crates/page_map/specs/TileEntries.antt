-- The representation of a page map: for each corner with a committed or staged tile, its planes.
use Rattle.std.specs.Prelude.{◌≡◌, ℕ, ◌+◌, ◌*◌, ◌≤◌, ◌<◌, ◌^◌, Bool, IsTrue, List, ◌++◌, length, Option, Some, None, IfSome}
use Rattle.std.specs.Option.{option_map}
use Rattle.std.specs.List.{filter_map, flat_map, AllByRecursion, AllAdjacentBelow}
use Rattle.std.specs.Map.{lookup, set_value}
use Rattle.std.specs.Ordering.{int_cmp, is_eq, ordering_then}
use Rattle.lattice.specs.Corners.{Corner, is_corner}
use Rattle.lattice.specs.Lattice.{IsBefore}
use Rattle.lattice.specs.Limits.{most_tiles}
use Rattle.page_codec.specs.Formats.{Format, upgraded}
use Rattle.page_codec.specs.Sizes.{plane_pages_of, sectors_asked}
use Rattle.page_map.specs.declared.locations.KeptLocations.{KeptLocations}
use Rattle.page_map.specs.declared.locations.TilePlanes.{TilePlanes}
use Rattle.page_map.specs.declared.plane.Plane.{Plane}
use Rattle.page_map.specs.declared.plane.Plane.TheVariants.{Heights, Levels, Labels}
use Rattle.page_map.specs.declared.plane_entry.Ending.{Ending}
use Rattle.page_map.specs.declared.plane_entry.Ending.TheVariants.{Committed, RolledBack}
use Rattle.page_map.specs.declared.plane_entry.PlaneEntry.{PlaneEntry}
use Rattle.page_map.specs.declared.plane_entry.Staged.TheVariants.{Fresh}
use Rattle.page_map.specs.declared.tile_entry.TileEntry.{TileEntry}
use Rattle.page_map.specs.Locations.{IsWholePlane, PlaneLocation, pages_of_plane, times}
use Rattle.page_map.specs.FreePages.{FreePages, PageRange, free_times, page_times}
use Rattle.page_map.specs.PlaneEntries.{ended_plane, fresh_in, settled_plane, staged_plane, used_in}
use Rattle.page_map.specs.TileLocations.{TileLocation}
use Rattle.page_map.specs.PageMaps.{PageMapValue, tile_at}

-- ---- an entry's tiles
abbrev pub kept_of : Option PlaneLocation → Option PlaneLocation → Option KeptLocations
kept_of None labels = None
kept_of (Some levels) None = None
kept_of (Some levels) (Some labels) = Some (record { levels = levels; labels = labels })

abbrev pub tile_planes : PlaneLocation → Option PlaneLocation → Option PlaneLocation → TilePlanes
tile_planes heights levels labels = record { heights = heights; kept = kept_of levels labels }

-- the corner's tile with these planes, if it has heights
abbrev pub tile_of : Corner → Option PlaneLocation → Option PlaneLocation → Option PlaneLocation → Option TileLocation
tile_of c heights levels labels = option_map (λ (h : PlaneLocation). tile_at c (tile_planes h levels labels)) heights

-- a corner with its planes
abbrev pub Entry : Type 0
Entry = Corner × TileEntry

-- the entry's tile as committed and as staged
abbrev pub committed_tile : Entry → Option TileLocation
committed_tile e = tile_of e.0 e.1.heights.committed e.1.levels.committed e.1.labels.committed

abbrev pub staged_tile : Entry → Option TileLocation
staged_tile e = tile_of e.0 (staged_plane e.1.heights) (staged_plane e.1.levels) (staged_plane e.1.labels)

abbrev pub committed_tiles : List Entry → List TileLocation
committed_tiles entries = filter_map committed_tile entries

abbrev pub staged_tiles : List Entry → List TileLocation
staged_tiles entries = filter_map staged_tile entries

-- the corner's planes, if it has an entry; and the entries with other planes for the corner
abbrev pub is_at_corner : Corner → Corner → Bool
is_at_corner c d = is_eq (ordering_then (int_cmp c.lat d.lat) (int_cmp c.lon d.lon))

abbrev pub planes_at : Corner → List Entry → Option TileEntry
planes_at c entries = lookup (is_at_corner c) entries

abbrev pub with_planes : Corner → TileEntry → List Entry → List Entry
with_planes c planes entries = set_value (is_at_corner c) entries planes

abbrev pub named_plane : Plane → TileEntry → PlaneEntry
named_plane Heights s = s.heights
named_plane Levels s = s.levels
named_plane Labels s = s.labels

-- ---- the pages of an entry
-- the pages that only the staged tile reaches
abbrev pub fresh_kept : TileEntry → List ℕ
fresh_kept s = fresh_in s.levels ++ fresh_in s.labels

abbrev pub fresh_pages : TileEntry → List ℕ
fresh_pages s = fresh_in s.heights ++ fresh_kept s

-- the committed pages and the fresh ones
abbrev pub used_pages : TileEntry → List ℕ
used_pages s = used_in s.heights ++ (used_in s.levels ++ used_in s.labels)

-- the same for an entry
abbrev pub fresh_kept_by : Entry → List ℕ
fresh_kept_by e = fresh_kept e.1

abbrev pub fresh_by : Entry → List ℕ
fresh_by e = fresh_pages e.1

abbrev pub used_by : Entry → List ℕ
used_by e = used_pages e.1

-- ---- entries
abbrev pub levels_of : Option KeptLocations → Option PlaneLocation
levels_of kept = option_map (λ (k : KeptLocations). k.levels) kept

abbrev pub labels_of : Option KeptLocations → Option PlaneLocation
labels_of kept = option_map (λ (k : KeptLocations). k.labels) kept

-- a committed tile with nothing staged
abbrev pub loaded_planes : TilePlanes → TileEntry
loaded_planes planes = record { heights = settled_plane (Some planes.heights); levels = settled_plane (levels_of planes.kept); labels = settled_plane (labels_of planes.kept) }

abbrev pub no_planes : TileEntry
no_planes = record { heights = settled_plane None; levels = settled_plane None; labels = settled_plane None }

-- the planes, and the entry, after a commit or a rollback
abbrev pub ended_planes : Ending → TileEntry → TileEntry
ended_planes ending s = record {
  heights = settled_plane (ended_plane ending s.heights);
  levels = settled_plane (ended_plane ending s.levels);
  labels = settled_plane (ended_plane ending s.labels);
}

abbrev pub ended_entry : Ending → Entry → Entry
ended_entry ending e = (e.0, ended_planes ending e.1)

-- The entry's tile has levels and labels on fresh pages, and is otherwise unchanged.
pub record IsKeptAnew (format : Format) (old new : TileEntry) : Type 0 where
  pub levels : PlaneLocation
  pub labels : PlaneLocation
  pub whole_levels : IsWholePlane format levels
  pub whole_labels : IsWholePlane format labels
  pub changed : new ≡ record old { levels = record (old.levels) { staged = Fresh levels }; labels = record (old.labels) { staged = Fresh labels } }
  pub fresh : fresh_kept new ≡ pages_of_plane levels ++ pages_of_plane labels

-- ---- rules of entries
-- levels are kept with labels, and both with heights
abbrev pub AreTogether : Option PlaneLocation → Option PlaneLocation → Option PlaneLocation → Type 0
AreTogether heights None None = Unit {0}
AreTogether heights None (Some labels) = ⊥
AreTogether heights (Some levels) None = ⊥
AreTogether None (Some levels) (Some labels) = ⊥
AreTogether (Some heights) (Some levels) (Some labels) = Unit {0}

-- The plane has all its pages, as committed and as staged.
pub record IsSoundPlane (format : Format) (e : PlaneEntry) : Type 0 where
  pub committed : IfSome e.committed (IsWholePlane format)
  pub staged : IfSome (staged_plane e) (IsWholePlane format)

-- The entry's corner is in range, and its planes have all their pages.
pub record IsSound (format : Format) (e : Entry) : Type 0 where
  pub corner : IsTrue (is_corner e.0)
  pub heights : IsSoundPlane format e.1.heights
  pub levels : IsSoundPlane format e.1.levels
  pub labels : IsSoundPlane format e.1.labels
  pub committed : AreTogether e.1.heights.committed e.1.levels.committed e.1.labels.committed
  pub staged : AreTogether (staged_plane e.1.heights) (staged_plane e.1.levels) (staged_plane e.1.labels)

-- Each page of the disk is committed, fresh or free, and only one of these.
abbrev pub AreCounted : List Entry → FreePages → Type 0
AreCounted entries free = (p : ℕ) → times p (flat_map used_by entries) + free_times free p ≡ page_times free.range p

-- The corners rise.
abbrev pub AreInOrder : List Entry → Type 0
AreInOrder entries = AllAdjacentBelow (λ a b. IsBefore a.0 b.0) entries (length entries)

-- The window has as many sectors as a store of the format needs. If the disk is large enough, it has those of the
-- second version.
pub record HasWindow (format : Format) (range : PageRange) : Type 0 where
  pub enough : sectors_asked format ≤ range.window
  pub within : range.window ≤ range.sectors
  pub upgrade : sectors_asked (upgraded format) ≤ range.sectors → sectors_asked (upgraded format) ≤ range.window

pub record IsKept (format : Format) (entries : List Entry) (free : FreePages) : Type 0 where
  pub fits : free.range.sectors < 2 ^ 32
  pub window : HasWindow format free.range
  pub few : format.capacity ≤ most_tiles
  pub in_order : AreInOrder entries
  pub sound : AllByRecursion (IsSound format) entries
  pub committed_room : length (committed_tiles entries) ≤ format.capacity
  pub staged_room : length (staged_tiles entries) ≤ format.capacity
  pub kept_room : length (flat_map fresh_kept_by entries) ≤ 2 * plane_pages_of format
  pub counted : AreCounted entries free

-- the page map with these entries
abbrev pub page_map_of : Format → List Entry → FreePages → PageMapValue
page_map_of format entries free =
    record { sectors = free.range.sectors; format = format; committed = committed_tiles entries; staged = staged_tiles entries }

-- The entries make the same page map, with any free pages.
abbrev pub AreAlike : List Entry → List Entry → Type 0
AreAlike old new = (format : Format) (free : FreePages) → IsKept format old free → IsKept format new free × (page_map_of format new free ≡ page_map_of format old free)

-- the page map after a commit or a rollback
abbrev pub ended_page_map : Ending → PageMapValue → PageMapValue
ended_page_map Committed page_map = record page_map { committed = page_map.staged }
ended_page_map RolledBack page_map = record page_map { staged = page_map.committed }
