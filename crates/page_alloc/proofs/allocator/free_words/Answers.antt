use Rattle.std.proofs.Common.{◌≡◌, ℕ, ◌-◌, ◌^◌, ◌∙◌, ap, arith, length, sym, true}
use Rattle.std.proofs.Math.ListN.{replicate}
use Rattle.std.proofs.lemmas.List.{length-replicate, with_items_is}
use Rattle.page_alloc.specs.Bits.{has_bit}
use Rattle.page_alloc.proofs.BitLemmas.{has_bit-ones}
use Rattle.page_alloc.proofs.ResultLemmas.{IfOk-result_ok}
use Rattle.page_alloc.proofs.allocator.free_words.Goals as goal
use Rattle.page_alloc.proofs.allocator.free_words.Goals.{In_ok-words}

-- all words are ones at first
ones : (c : In_ok-words) → c.in_ok-words.words.items ≡ replicate c.div_ceil.result (2 ^ 64 - 1)
ones c =
    IfOk-result_ok (λ v. ((y : ℕ) → y ≡ 2 ^ 64 - 1 → y ≡ 2 ^ 64 - 1) → v.items ≡ replicate c.div_ceil.result (2 ^ 64 - 1)) c.vec.result c.in_ok-words.words c.in_ok-words.ensures.value c.vec.ensures.items_if_clones_equal (λ y same. same)

pub returns-clause-pages : goal.returns-clause-pages
returns-clause-pages c q is_page =
    ap (λ ws. has_bit ws q) (with_items_is c.in_ok-words.words c.clear_others.new.words (omega arith))
    ∙ (c.clear_others.ensures.pages q is_page
    ∙ (ap (λ ws. has_bit ws q) (c.deref_mut.ensures.value ∙ ones (goal.at.returns-clause-pages c).In_ok-words) ∙ has_bit-ones c.div_ceil.result q (omega (arith, is_page.1, c.div_ceil.ensures))))
