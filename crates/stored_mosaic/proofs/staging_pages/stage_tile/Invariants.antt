use Rattle.stored_mosaic.proofs.Prelude.{MakesPages, Ok, pages_met_in, pages_of, ◌-◌, ◌<◌, ◌≡◌, ◌≤◌}
use Rattle.stored_mosaic.proofs.staging_pages.stage_tile.Given as goal

abbrev pub invariant-pages : goal.invariant-pages
invariant-pages g l = record {
  within : l.from ≤ pages_of l.side;
  makes : MakesPages {T = Unit {0}} g.D.Disk l.side (g.E.PageEdit.made l.edit) (g.E.PageEdit.fits l.edit) (λ c i. (c ≡ l.corner) × (i < l.from))
      (pages_met_in (g.E.PageEdit.meets l.edit l.side l.corner) l.from) 0 l.fn.tree l.tree (Ok tt);
}

abbrev pub decreases-pages : goal.decreases-pages
decreases-pages g l = pages_of l.side - l.from
