use Rattle.std.proofs.Common.{◌≡◌, ap, sym, ◌∙◌, arith, length, refl, true}
use Rattle.std.proofs.lemmas.Bool.{false≢true}
use Rattle.std.specs.Prelude.{is_some}
use Rattle.page_alloc.specs.Bits.{has_bit}
use Rattle.page_alloc.proofs.PageLemmas.{free_is_bit, none_free, some_free}
use Rattle.page_alloc.proofs.allocator.Pages.next_free.Goals as goal
use Rattle.page_alloc.proofs.allocator.Pages.next_free.Goals.{In_ok-page}

pub next_set-requires : goal.next_set-requires
next_set-requires c = omega (arith, ap length c.deref.ensures.value)

pub returns-in_err-page-clause-found : goal.returns-in_err-page-clause-found
returns-in_err-page-clause-found c =
    let none = none_free c.self.invariant c.args.self.now c.self.view_is (λ q. ap (λ ws. has_bit ws q) (sym c.deref.ensures.value) ∙ c.in_err-page.ensures.none q) in
    (λ some. absurd (false≢true (sym (ap is_some c.from_residual.ensures) ∙ some)), λ some. absurd (omega arith))

-- the bit that was found is set
is_set : (c : In_ok-page) → has_bit c.self.inside.words.items c.in_ok-page.page ≡ true
is_set c = ap (λ ws. has_bit ws c.in_ok-page.page) (sym c.deref.ensures.value) ∙ c.in_ok-page.ensures.found

pub overflow_cast-result : goal.overflow_cast-result
overflow_cast-result c =
    let is_page = c.self.invariant.only_pages c.in_ok-page.page (is_set c) in
    omega arith

pub returns-clause-found : goal.returns-clause-found
returns-clause-found c = (λ _. some_free c.self.invariant c.args.self.now c.self.view_is c.in_ok-page.page (is_set c), λ _. refl)

pub returns-clause-is_free : goal.returns-clause-is_free
returns-clause-is_free c = free_is_bit c.self.invariant c.args.self.now c.self.view_is c.in_ok-page.page ∙ is_set c
