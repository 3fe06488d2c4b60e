use Rattle.page_alloc.proofs.PageLemmas.{free_is_page}
use Rattle.page_alloc.proofs.allocator.Pages.free.Goals as goal

pub returns-clause-pages : goal.returns-clause-pages
returns-clause-pages c = free_is_page c.self.invariant c.args.self.now c.self.view_is
