use Rattle.cow_tree.proofs.Prelude.{AreStaged, List, None, PageMapValue, StoresAt, TileLocation, ap, arith, corners_of_locations, format_of, map, subst, sym, tile_in, ◌∙◌}
use Rattle.cow_tree.proofs.Listed.Due.{other_due}
use Rattle.cow_tree.proofs.Writes.KeptDrops.{bared_tiles, other_corners, other_still, other_stays}
use Rattle.cow_tree.proofs.tree.Tree.drop_kept.Goals as goal

pub returns-clause-corners : goal.returns-clause-corners
returns-clause-corners g c = ap (λ (x : PageMapValue). corners_of_locations x.staged) c.drop_kept.ensures.dropped ∙ other_corners c.args.c None c.args.self.now.page_map.staged

pub returns-clause-staged : goal.returns-clause-staged
returns-clause-staged g c =
    let seen = g.D.Disk.seen c.args.self.now.roots.disk in
    ap (λ (x : PageMapValue). map (tile_in seen) x.staged) c.drop_kept.ensures.dropped ∙ bared_tiles c.args.c seen c.args.self.now.page_map.staged

pub returns-clause-due : goal.returns-clause-due
returns-clause-due g c = let few = other_due c.args.self.now.page_map c.drop_kept.new.self c.args.c None c.drop_kept.ensures.dropped c.rules.ensures c.requires in omega (arith, few)

pub returns-clause-still_staged : goal.returns-clause-still_staged
returns-clause-still_staged g c other = other_still c.args.c None c.args.self.now.page_map c.drop_kept.new.self other c.drop_kept.ensures.dropped

pub returns-clause-at : goal.returns-clause-at
returns-clause-at g c s is =
    let old = c.args.self.now in
    let seen = g.D.Disk.seen old.roots.disk in
    let dropped = c.drop_kept.ensures.dropped in
    record {
      ready = is.ready;
      each = λ image may. subst (λ (tiles : List TileLocation). StoresAt (g.D.Disk.size old.roots.disk) old.roots.root tiles s image) (sym (ap (λ (x : PageMapValue). x.committed) dropped)) (is.each image may);
      staged = subst (λ (x : PageMapValue). AreStaged (format_of old.roots.root) x.committed x.staged seen) (sym dropped)
          (other_stays c.args.c None (format_of old.roots.root) old.page_map.committed seen tt old.page_map.staged is.staged);
    }
