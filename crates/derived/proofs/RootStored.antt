-- What is stored, as far as the known root determines it.
use Rattle.std.proofs.Common.{◌≡◌, List, [], ◌∷◌, map, refl, sym, ap, ◌∙◌}
use Rattle.std.specs.Prelude.{Option, Some, None}
use Rattle.disk.specs.Disk.{Image}
use Rattle.disk.specs.declared.disk.Disk.{Ghosts}
use Rattle.lattice.specs.Corners.{Corner}
use Rattle.page_map.specs.TileLocations.{TileLocation}
use Rattle.page_map.specs.declared.locations.KeptLocations.{KeptLocations}
use Rattle.cow_tree.specs.Entries.{entry_of}
use Rattle.cow_tree.specs.Layout.{StoresAt, tile_in}
use Rattle.cow_tree.specs.Stored.{Stored}
use Rattle.cow_tree.specs.Trees.{disk_of, root_of, IsAt}
use Rattle.cow_tree.specs.declared.tree.Tree.{Tree}
use Rattle.derived.specs.Kept.{stale_among, stale_in, stale_corners}

-- The stale tiles by the root's entries are the stale tiles by what is stored.
stale_entries : (image : Image) (tiles : List TileLocation) → stale_among (map entry_of tiles) ≡ stale_corners (map (tile_in image) tiles)
stale_entries image [] = refl
stale_entries image (t ∷ rest) = by t.kept (stale_entries image rest)
  where
    by : (kept : Option KeptLocations) → stale_among (map entry_of rest) ≡ stale_corners (map (tile_in image) rest)
        → stale_among (map entry_of (record t { kept = kept } ∷ rest)) ≡ stale_corners (map (tile_in image) (record t { kept = kept } ∷ rest))
    by None later = ap (λ (cs : List Corner). t.corner ∷ cs) later
    by (Some k) later = later

-- For a tree with this content, the known root's numbers are those of what is stored.
module _ {D : Type 0} (g : Ghosts D) (tree : Tree D g) (s : Stored) (at : IsAt g tree s) (seen : g.may (disk_of tree) (g.seen (disk_of tree))) where
  stores : StoresAt (g.size (disk_of tree)) (root_of tree) tree.page_map.committed s (g.seen (disk_of tree))
  stores = at.each (g.seen (disk_of tree)) seen

  pub tiles_at : s.tiles ≡ map (tile_in (g.seen (disk_of tree))) tree.page_map.committed
  tiles_at = ap (λ (x : Stored). x.tiles) stores.stands

  pub side_at : s.side ≡ (root_of tree).side
  side_at = ap (λ (x : Stored). x.side) stores.stands

  pub version_at : s.version ≡ (root_of tree).version
  version_at = ap (λ (x : Stored). x.version) stores.stands

  pub capacity_at : s.capacity ≡ (root_of tree).capacity
  capacity_at = ap (λ (x : Stored). x.capacity) stores.stands

  pub count_at : s.count ≡ (root_of tree).count
  count_at = ap (λ (x : Stored). x.count) stores.stands

  pub number_at : s.number ≡ (root_of tree).number
  number_at = ap (λ (x : Stored). x.number) stores.stands

  pub sinks_at : s.sinks ≡ (root_of tree).sinks
  sinks_at = ap (λ (x : Stored). x.sinks) stores.stands

  pub stale_at : stale_in (root_of tree) ≡ stale_corners s.tiles
  stale_at = ap stale_among (sym stores.laid_out.entries) ∙ stale_entries (g.seen (disk_of tree)) tree.page_map.committed ∙ ap stale_corners (sym tiles_at)
