use Rattle.std.proofs.Common.{rules, ◌≡◌, false, sym, subst}
use Rattle.disk.specs.Disk.{Image}
use Rattle.cow_tree.specs.Caches.{Agrees}
use Rattle.cow_tree.proofs.tree.Tree.peek_sector.Goals as goal

pub invariant_of-self-clause-cached : goal.invariant_of-self-clause-cached
invariant_of-self-clause-cached g c honest works =
    let d = g.D.Disk in
    let old = c.args.self.now in
    let read = c.peek.ensures in
    let worked : old.roots.failed ≡ false = search rules in
    subst (λ (image : Image). Agrees old.cache image) (sym (read.seen honest)) (old.cached (read.nothing honest).honest worked)
