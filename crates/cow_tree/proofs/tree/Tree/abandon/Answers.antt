use Rattle.cow_tree.proofs.Prelude.{PageMapValue, ap, sym, ◌∙◌}
use Rattle.cow_tree.proofs.Clean.{is_clean}
use Rattle.cow_tree.proofs.tree.Tree.abandon.Goals as goal

pub returns-clause-clean : goal.returns-clause-clean
returns-clause-clean g c = is_clean _ (ap (λ (x : PageMapValue). x.staged) c.rollback.ensures.rolled_back ∙ sym (ap (λ (x : PageMapValue). x.committed) c.rollback.ensures.rolled_back))
