use Rattle.cow_tree.proofs.Prelude.{Agrees, Image, false, rules, subst, sym, ◌≡◌}
use Rattle.cow_tree.proofs.tree.Tree.is_current.Goals as goal

pub invariant_of-self-clause-cached : goal.invariant_of-self-clause-cached
invariant_of-self-clause-cached g c honest works =
    let old = c.args.self.now in
    let read = c.is_current.ensures in
    let worked : old.roots.failed ≡ false = search rules in
    subst (λ (image : Image). Agrees old.cache image) (sym (read.seen honest)) (old.cached (read.nothing honest).honest worked)
