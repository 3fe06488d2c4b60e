use Rattle.stored_mosaic.proofs.Prelude.{All, IsPrepared, Ok, Prepares, pages_met, pages_of, take}
use Rattle.stored_mosaic.proofs.staging_pages.prepare_tiles.Given as goal

abbrev pub invariant-loop-corner : goal.invariant-loop-corner
invariant-loop-corner g l = record {
  prepares : Prepares {T = Unit {0}} g.D.Disk (pages_met (g.E.PageEdit.meets l.edit l.side) (pages_of l.side) (take l.corner-index l.corners)) l.fn.tree l.tree (Ok tt);
  prepared : All (IsPrepared (g.E.PageEdit.meets l.edit l.side) (pages_of l.side) l.tree) (take l.corner-index l.corners);
}
