use Rattle.std.proofs.Common.{◌≡◌, ap, sym, ◌∙◌, arith}
use Rattle.std.proofs.lemmas.Bool.{ltb-true}
use Rattle.std.specs.FinSet.{contains}
use Rattle.page_alloc.specs.Bits.{has_bit}
use Rattle.page_alloc.proofs.PageLemmas.{free_is_bit}
use Rattle.page_alloc.proofs.allocator.Pages.is_free.Goals as goal

pub returns-then-page-self-clause-answer : goal.returns-then-page-self-clause-answer
returns-then-page-self-clause-answer c =
    let tested : c.is_set.result ≡ contains c.args.self.now.free c.args.page =
    c.is_set.ensures ∙ ap (λ ws. has_bit ws c.args.page) c.deref.ensures.value
    ∙ sym (free_is_bit c.self.invariant c.args.self.now c.self.view_is c.args.page) in
    (λ set. sym tested ∙ set, λ is_free. tested ∙ is_free)

pub returns-else-page-self-clause-answer : goal.returns-else-page-self-clause-answer
returns-else-page-self-clause-answer c = (
  λ below. absurd (omega (arith, ltb-true _ _ below)),
  λ is_free.
      let is_page = c.self.invariant.only_pages c.args.page (sym (free_is_bit c.self.invariant c.args.self.now c.self.view_is c.args.page) ∙ is_free) in
      absurd (omega arith),
)
