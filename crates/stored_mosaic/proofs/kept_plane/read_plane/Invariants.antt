use Rattle.stored_mosaic.proofs.Prelude.{HasOnlyRead, IsTileOf, PlanePages, Some, StoredTile, disk_of, false, has_failed, min, staged_in, stored_plane, vec_capacity, vec_len, ◌*◌, ◌≡◌, ◌≤◌}
use Rattle.stored_mosaic.proofs.Reading.QueryingPages.{IsReadTo}
use Rattle.stored_mosaic.proofs.kept_plane.read_plane.Given as goal

abbrev pub invariant-loop-i : goal.invariant-loop-i
invariant-loop-i g l = record {
  keeps : HasOnlyRead g.D.Disk l.fn.tree l.tree;
  works : has_failed l.tree ≡ false;
  upto : vec_len l.bytes ≡ min l.len (4096 * l.i);
  room : l.len ≤ vec_capacity l.bytes;
  read : g.D.Disk.honest (disk_of l.tree) → (t : StoredTile) (pages : PlanePages) → IsTileOf (staged_in g.D.Disk l.fn.tree) l.corner t → stored_plane l.plane t ≡ Some pages → IsReadTo l.len pages l.i l.bytes.items;
}
