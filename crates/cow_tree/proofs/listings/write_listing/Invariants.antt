use Rattle.cow_tree.proofs.Prelude.{Agrees, Ok, WritesListing, disk_of, due_among, plane_listing, take, written_before}
use Rattle.cow_tree.proofs.listings.write_listing.Given as goal

abbrev pub invariant-loop-i : goal.invariant-loop-i
invariant-loop-i g l = record {
  listed : WritesListing {T = Unit {0}} g.D.Disk (due_among (written_before l.fn.which l.fn.page_map) (take l.i (plane_listing l.fn.page_map.format l.plane))) l.fn.roots l.roots (Ok tt);
  cached : g.D.Disk.honest (disk_of l.roots) → Agrees l.fn.cache (g.D.Disk.seen (disk_of l.fn.roots)) → Agrees l.cache (g.D.Disk.seen (disk_of l.roots));
}
