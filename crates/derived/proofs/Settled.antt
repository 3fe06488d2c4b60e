-- Trees with nothing staged, and the mosaic that they store.
use Rattle.std.proofs.Common.{◌≡◌, List, map, sym, ap, ap₂, ◌∙◌, subst}
use Rattle.disk.specs.declared.disk.Disk.{Ghosts}
use Rattle.lattice.specs.Mosaic.{IsMosaic}
use Rattle.lattice.specs.declared.point.Point.{Point}
use Rattle.page_map.specs.TileLocations.{TileLocation}
use Rattle.cow_tree.specs.Layout.{tile_in}
use Rattle.cow_tree.specs.Reading.{mosaic_of, IsReadable}
use Rattle.cow_tree.specs.Stored.{StoredTile, Stored, AreWhole, mosaic_of_tiles}
use Rattle.cow_tree.specs.Trees.{disk_of, root_of, sinks_of, staged_in, IsUnstaged, IsAt}
use Rattle.cow_tree.specs.declared.tree.Tree.{Tree}
use Rattle.derived.specs.Kept.{KeepsRight, mosaic_stored}
use Rattle.derived.proofs.RootStored.{side_at, sinks_at, tiles_at}

-- The tree stores this, and the next commit would store the same tiles and sinks.
pub record IsSettled {D : Type 0} (g : Ghosts D) (tree : Tree D g) (s : Stored) : Type 0 where
  pub at : IsAt g tree s
  pub tiles : staged_in g tree ≡ s.tiles
  pub sinks : sinks_of tree ≡ s.sinks

module _ {D : Type 0} (g : Ghosts D) where
  -- If nothing is staged, the tree's tiles and sinks are the stored ones.
  pub settled_at : (tree : Tree D g) (s : Stored) → IsUnstaged tree → sinks_of tree ≡ (root_of tree).sinks → IsAt g tree s → g.may (disk_of tree) (g.seen (disk_of tree)) → IsSettled g tree s
  settled_at tree s unstaged declared at seen = record {
    at = at;
    tiles = ap (λ (tiles : List TileLocation). map (tile_in (g.seen (disk_of tree))) tiles) unstaged ∙ sym (tiles_at g tree s at seen);
    sinks = declared ∙ sym (sinks_at g tree s at seen);
  }

  module _ (tree : Tree D g) (s : Stored) (settled : IsSettled g tree s) (seen : g.may (disk_of tree) (g.seen (disk_of tree))) where
    pub mosaic_settled : mosaic_of g tree ≡ mosaic_stored s
    mosaic_settled =
        ap₂ (λ (sinks : List Point) (tiles : List StoredTile). mosaic_of_tiles (root_of tree).side sinks tiles) settled.sinks settled.tiles
        ∙ ap (λ n. mosaic_of_tiles n s.sinks s.tiles) (sym (side_at g tree s settled.at seen))

    pub readable_settled : g.honest (disk_of tree) → KeepsRight s → IsReadable g tree
    readable_settled honest keeps = record {
      honest = honest;
      pages = subst AreWhole (sym settled.tiles) keeps.pages;
      valid = subst IsMosaic (sym mosaic_settled) keeps.valid;
    }
