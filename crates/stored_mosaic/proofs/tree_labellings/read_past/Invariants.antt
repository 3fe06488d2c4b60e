use Rattle.stored_mosaic.proofs.Prelude.{HasOnlyRead, false, has_failed, vec_len, ◌*◌, ◌≡◌}
use Rattle.stored_mosaic.proofs.tree_labellings.read_past.Given as goal

abbrev pub invariant-loop-i : goal.invariant-loop-i
invariant-loop-i g l = record {
  keeps : HasOnlyRead g.D.Disk l.fn.tree l.tree;
  works : has_failed l.tree ≡ false;
  long : vec_len l.bytes ≡ 4096 * l.i;
}
