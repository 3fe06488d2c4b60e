use Rattle.cow_tree.proofs.Prelude.{AreStaged, Corner, List, PageMapValue, StoredTile, StoresAt, TileLocation, ap, corners_of_locations, format_of, map, not, same_corner, subst, sym, tile_in, ◌∙◌}
use Rattle.cow_tree.proofs.Writes.Dropping.{filter-map, staged_without}
use Rattle.cow_tree.proofs.Listed.Due.{without_due}
use Rattle.cow_tree.proofs.tree.Tree.drop_plane.Goals as goal

pub returns-clause-corners : goal.returns-clause-corners
returns-clause-corners g c =
    ap (λ (x : PageMapValue). corners_of_locations x.staged) c.remove_tile.ensures.removed
    ∙ filter-map (λ (other : Corner). not (same_corner other c.args.c)) (λ (t : TileLocation). t.corner) c.args.self.now.page_map.staged

pub returns-clause-staged : goal.returns-clause-staged
returns-clause-staged g c =
    let seen = g.D.Disk.seen c.args.self.now.roots.disk in
    ap (λ (x : PageMapValue). map (tile_in seen) x.staged) c.remove_tile.ensures.removed
    ∙ filter-map (λ (t : StoredTile). not (same_corner t.corner c.args.c)) (tile_in seen) c.args.self.now.page_map.staged

pub returns-clause-at : goal.returns-clause-at
returns-clause-at g c s is =
    let old = c.args.self.now in
    let removed = c.remove_tile.ensures.removed in
    record {
      ready = is.ready;
      each = λ image may. subst (λ (tiles : List TileLocation). StoresAt (g.D.Disk.size old.roots.disk) old.roots.root tiles s image) (sym (ap (λ (x : PageMapValue). x.committed) removed)) (is.each image may);
      staged = subst (λ (x : PageMapValue). AreStaged (format_of old.roots.root) x.committed x.staged (g.D.Disk.seen old.roots.disk)) (sym removed)
          (staged_without (format_of old.roots.root) old.page_map.committed old.page_map.staged c.args.c (g.D.Disk.seen old.roots.disk) is.staged);
    }

pub returns-clause-due : goal.returns-clause-due
returns-clause-due g c = without_due c.args.self.now.page_map c.remove_tile.new.self c.args.c c.remove_tile.ensures.removed
