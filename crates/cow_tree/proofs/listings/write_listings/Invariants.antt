use Rattle.cow_tree.proofs.Prelude.{Agrees, Ok, WritesListing, disk_of, due_among, take, tiles_listing, written_before}
use Rattle.cow_tree.proofs.listings.write_listings.Given as goal

abbrev pub invariant-loop-corner : goal.invariant-loop-corner
invariant-loop-corner g l = record {
  listed : WritesListing {T = Unit {0}} g.D.Disk (due_among (written_before l.fn.which l.fn.page_map) (tiles_listing l.fn.page_map.format (take l.corner-index l.fn.page_map.staged))) l.fn.roots l.roots (Ok tt);
  cached : g.D.Disk.honest (disk_of l.roots) → Agrees l.fn.cache (g.D.Disk.seen (disk_of l.fn.roots)) → Agrees l.cache (g.D.Disk.seen (disk_of l.roots));
}
