use Rattle.std.proofs.Common.{arith, inl, inr, length, ◌*◌, ◌∙◌}
use Rattle.std.proofs.lemmas.Bool.{cases_lt}
use Rattle.page_alloc.proofs.BitLemmas.{has_bit-past}
use Rattle.page_alloc.proofs.allocator.clear_others.Goals as goal

pub returns-clause-pages : goal.returns-clause-pages
returns-clause-pages c q is_page = c.clear_range-2.ensures.below q is_page.1 ∙ c.clear_range.ensures.above q (omega (arith, is_page.0, c.min.ensures))

pub returns-clause-others : goal.returns-clause-others
returns-clause-others c q no_page =
    elim (cases_lt q (64 * length c.args.words.now)) [
      | inr past ↦ has_bit-past c.clear_range-2.new.words q (omega (arith, past))
      | inl inside ↦ elim (cases_lt q c.args.total) [
        | inr late ↦ c.clear_range-2.ensures.cleared q late (omega (arith, inside))
        | inl early ↦ c.clear_range-2.ensures.below q early ∙ elim (cases_lt q 4) [
          | inl first ↦ c.clear_range.ensures.cleared q (omega arith) (omega (arith, first, inside, c.min.ensures))
          | inr later ↦ absurd (no_page (later, early))
        ]
      ]
    ]
