use Rattle.std.proofs.Common.{◌-◌, ◌∙◌, ◌≡◌, ℕ, arith, refl, sym, subst}
use Rattle.page_alloc.specs.Layout.{IsSound, pages_below}
use Rattle.page_alloc.specs.Pages.{PageSet}
use Rattle.page_alloc.proofs.PageLemmas.{all_sound, free_is_bit}
use Rattle.page_alloc.proofs.allocator.Pages.new.Goals as goal
use Rattle.page_alloc.proofs.allocator.Pages.new.Goals.{In_ok-words}

sound : (c : In_ok-words) → IsSound c.args.total c.in_ok-words.words.items (c.args.total - 4)
sound c = all_sound c.args.total c.in_ok-words.words.items c.in_ok-words.ensures.pages c.in_ok-words.ensures.others c.ranges.total.fits c.in_ok-words.ensures.covers

pub invariant_of-result : goal.invariant_of-result
invariant_of-result c =
    let count : c.saturating_sub.result ≡ c.args.total - 4 = omega (arith, c.saturating_sub.ensures) in
    subst (IsSound c.args.total c.in_ok-words.words.items) (sym count) (sound (goal.at.invariant_of-result c).In_ok-words)

pub returns-clause-all_free : goal.returns-clause-all_free
returns-clause-all_free c page =
    let all_free = sound (goal.at.returns-clause-all_free c).In_ok-words in
    let pages : PageSet = record { total = c.args.total; free = pages_below c.args.total c.in_ok-words.words.items } in
    let is_bit = free_is_bit all_free pages refl page in
    (λ is_free. all_free.only_pages page (sym is_bit ∙ is_free), λ is_page. is_bit ∙ c.in_ok-words.ensures.pages page is_page)

pub returns-clause-count : goal.returns-clause-count
returns-clause-count c = sym (sound (goal.at.returns-clause-count c).In_ok-words).counted
