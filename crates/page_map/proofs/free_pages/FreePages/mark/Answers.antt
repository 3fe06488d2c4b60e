use Rattle.page_map.proofs.Prelude.{false≢true, inr, refl, sym, ◌∙◌}
use Rattle.page_map.proofs.FreeTimes.{near_marked, not_near}
use Rattle.page_map.proofs.free_pages.FreePages.mark.Goals as goal
use Rattle.page_map.proofs.free_pages.FreePages.mark.Goals.{then-mark, else-mark}

pub returns-then-page-total-clause-marked : goal.returns-then-page-total-clause-marked
returns-then-page-total-clause-marked c = elim c.if-mark.branch [
  | then-mark w ↦ rw (w.result-is, ← c.self.view_is) (near_marked _ _ _ _ _ (rw c.total.ensures at c.if-page-total.true) (c.mark.ensures.answer.0 w.if-mark.true) (rw w.if-mark.true at c.mark.ensures.marked))
  | else-mark w ↦ rw w.result-is tt
]

pub returns-then-page-total-clause-refused : goal.returns-then-page-total-clause-refused
returns-then-page-total-clause-refused c = elim c.if-mark.branch [
  | then-mark w ↦ rw w.result-is tt
  | else-mark w ↦ rw (w.result-is, ← c.self.view_is) (inr (refl, not_near c.self.inside.sectors c.self.inside.near c.self.inside.near c.self.inside.far c.args.page (rw c.total.ensures at c.if-page-total.true) (λ free. false≢true (sym w.if-mark.false ∙ c.mark.ensures.answer.1 free))))
]
