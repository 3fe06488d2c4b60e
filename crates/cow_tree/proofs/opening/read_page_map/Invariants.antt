use Rattle.cow_tree.proofs.Prelude.{All, HasRecords, IsClean, IsPageMap, disk_of, entry_of, false, format_of, has_failed, map, take, ◌≡◌}
use Rattle.cow_tree.proofs.ReadOnly.{HasRead}
use Rattle.cow_tree.proofs.opening.read_page_map.Given as goal

abbrev pub invariant-loop-entry : goal.invariant-loop-entry
invariant-loop-entry g l = record {
  works : has_failed l.roots ≡ false;
  reads : HasRead g.D.Disk l.fn.roots l.roots;
  rules : IsPageMap l.page_map;
  sectors : l.page_map.sectors ≡ g.D.Disk.size (disk_of l.fn.roots);
  format : l.page_map.format ≡ format_of l.fn.root;
  clean : IsClean l.page_map;
  entries : map entry_of l.page_map.committed ≡ take l.entry-index l.fn.root.entries;
  records : g.D.Disk.honest (disk_of l.roots) → All (HasRecords (format_of l.fn.root) (g.D.Disk.seen (disk_of l.fn.roots))) l.page_map.committed;
}
