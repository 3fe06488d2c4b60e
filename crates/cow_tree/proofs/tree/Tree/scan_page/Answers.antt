use Rattle.cow_tree.proofs.Prelude.{Agrees, Image, false, rules, subst, sym, ◌≡◌}
use Rattle.cow_tree.proofs.Steps.{on_ok}
use Rattle.cow_tree.proofs.tree.Tree.scan_page.Goals as goal

pub returns-clause-page : goal.returns-clause-page
returns-clause-page g c honest = on_ok c.read.result (c.page_number-number.ensures.page (g.D.Disk.seen c.args.self.now.roots.disk) c.read.new.into) (c.read.ensures.read honest)

pub invariant_of-self-clause-cached : goal.invariant_of-self-clause-cached
invariant_of-self-clause-cached g c honest works =
    let d = g.D.Disk in
    let old = c.args.self.now in
    let read = c.read.ensures in
    let worked : old.roots.failed ≡ false = search rules in
    subst (λ (image : Image). Agrees old.cache image) (sym (read.seen honest)) (old.cached (read.nothing honest).honest worked)
