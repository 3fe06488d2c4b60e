use Rattle.page_map.proofs.Prelude.{FreePages, IsFree, IsPage, PageSet, ap, arith, len, len-without, subst, sym, without_page, ◌<◌, ◌≡◌}
use Rattle.page_map.proofs.FreeTimes.{near_marked}
use Rattle.page_map.proofs.free_pages.FreePages.take.Goals as goal

pub returns-clause-taken : goal.returns-clause-taken
returns-clause-taken c =
    let near = c.self.inside.near in
    let free : IsFree near c.unwrap.result = rw c.unwrap.ensures at c.take.ensures.was_free in
    let page : IsPage near.total c.unwrap.result = rw c.unwrap.ensures at c.take.ensures.in_range in
    let taken : c.take.new.self ≡ without_page near c.unwrap.result = rw c.unwrap.ensures at c.take.ensures.taken in
    rw (← c.self.view_is) (near_marked c.self.inside.sectors near c.take.new.self c.self.inside.far c.unwrap.result page.1 free taken)

pub returns-clause-left : goal.returns-clause-left
returns-clause-left c =
    let near = c.self.inside.near in
    let free : IsFree near c.unwrap.result = rw c.unwrap.ensures at c.take.ensures.was_free in
    let taken : c.take.new.self ≡ without_page near c.unwrap.result = rw c.unwrap.ensures at c.take.ensures.taken in
    let some : 0 < len near.free = subst (λ (v : FreePages). 0 < len v.free) (sym c.self.view_is) c.requires in
    let less = len-without near.free c.unwrap.result free in
    rw (← c.self.view_is, ap (λ (s : PageSet). s.free) taken, less) (omega arith)
