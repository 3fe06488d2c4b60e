use Rattle.page_map.proofs.Prelude.{AreInUse, FreePages, [], subst, sym, ◌<◌, ◌∷◌}
use Rattle.page_map.proofs.FreeTimes.{near_back, near_in_use, one_in_use}
use Rattle.page_map.proofs.free_pages.FreePages.give.Goals as goal

pub give-requires-clause-in_range : goal.give-requires-clause-in_range
give-requires-clause-in_range c = ((one_in_use c.args.self.now c.args.page c.requires).0.0, rw c.total.ensures at c.if-page-total.true)

pub returns-then-page-total : goal.returns-then-page-total
returns-then-page-total c =
    let near = c.self.inside.near in
    let inside : c.args.page < near.total = rw c.total.ensures at c.if-page-total.true in
    let in_use = subst (λ (v : FreePages). AreInUse (c.args.page ∷ []) v) (sym c.self.view_is) c.requires in
    rw (← c.self.view_is)
    (near_back c.self.inside.sectors near c.give.new.self c.self.inside.far c.args.page inside (near_in_use c.self.inside.sectors near c.self.inside.far c.args.page inside in_use) c.give.ensures)
