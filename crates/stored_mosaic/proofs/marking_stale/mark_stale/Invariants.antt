use Rattle.stored_mosaic.proofs.Prelude.{Stales, corners_of, goes_stale_by, root_of, take}
use Rattle.stored_mosaic.proofs.Reading.Nearby.{passes_first}
use Rattle.stored_mosaic.proofs.marking_stale.mark_stale.Given as goal

abbrev pub invariant-loop-corner : goal.invariant-loop-corner
invariant-loop-corner g l = Stales g.D.Disk (passes_first (goes_stale_by (root_of l.fn.tree).side (corners_of l.fn.tree) l.edit) (take l.corner-index (corners_of l.fn.tree))) l.fn.tree l.tree
