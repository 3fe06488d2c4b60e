use Rattle.stored_mosaic.proofs.Prelude.{Contains, MakesPages, Ok, pages_met, pages_of, take}
use Rattle.stored_mosaic.proofs.staging_pages.stage_tiles.Given as goal

abbrev pub invariant-loop-corner : goal.invariant-loop-corner
invariant-loop-corner g l =
    MakesPages {T = Unit {0}} g.D.Disk l.side (g.E.PageEdit.made l.edit) (g.E.PageEdit.fits l.edit) (λ c i. Contains (take l.corner-index l.corners) c)
    (pages_met (g.E.PageEdit.meets l.edit l.side) (pages_of l.side) (take l.corner-index l.corners)) 0 l.fn.tree l.tree (Ok tt)
