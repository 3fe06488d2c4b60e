use Rattle.cow_tree.proofs.Prelude.{ℕ, disk_of, drop, get_or, page_of_bytes, take, ◌*◌, ◌<◌, ◌≡◌}
use Rattle.cow_tree.proofs.Writes.PageWrites.{HasWritten}
use Rattle.cow_tree.proofs.writing.write_plane.Given as goal

abbrev pub invariant-loop-page : goal.invariant-loop-page
invariant-loop-page g l = record {
  wrote : HasWritten g.D.Disk (take l.page-index l.pages) l.fn.roots l.roots;
  rest : l.rest ≡ drop (4096 * l.page-index) l.bytes;
  written : g.D.Disk.honest (disk_of l.roots) → (k : ℕ) → k < l.page-index → g.D.Disk.seen (disk_of l.roots) (get_or l.pages k 0) ≡ page_of_bytes l.bytes k;
}
