use Rattle.cow_tree.proofs.Prelude.{ℕ, disk_of, drop, false, get_or, has_failed, length, pages_of, part_of, record_bytes, ◌<◌, ◌≡◌}
use Rattle.cow_tree.proofs.Listed.Indexed.{AreReadTo}
use Rattle.cow_tree.proofs.ReadOnly.{HasRead}
use Rattle.cow_tree.proofs.opening.read_indexed.Given as goal

abbrev pub invariant-loop-t : goal.invariant-loop-t
invariant-loop-t g l = record {
  works : has_failed l.roots ≡ false;
  reads : HasRead g.D.Disk l.fn.roots l.roots;
  read : AreReadTo l.fn.index.items (pages_of l.fn.format.side) l.t l.left l.behind.items;
  parts : g.D.Disk.honest (disk_of l.roots) → (k : ℕ) → k < l.t → g.D.Disk.seen (disk_of l.fn.roots) (get_or l.fn.index.items k 0) ≡ record_bytes (part_of k (drop (length l.fn.index.items) l.behind.items));
}
