use Rattle.cow_tree.proofs.Prelude.{Agrees, Image, ap, false, rules, subst, sym, ◌∙◌, ◌≡◌}
use Rattle.cow_tree.proofs.Cached.{fewer_agree, one_more_agrees}
use Rattle.cow_tree.proofs.Steps.{ok_where_works}
use Rattle.cow_tree.proofs.tree.Tree.read_bytes.Goals as goal

pub invariant_of-self-clause-cached : goal.invariant_of-self-clause-cached
invariant_of-self-clause-cached g c honest works =
    let old = c.args.self.now in
    fewer_agree old.cache c.find.new.self (g.D.Disk.seen old.roots.disk) c.find.ensures.kept (old.cached honest works)

pub returns-then-find-clause-bytes : goal.returns-then-find-clause-bytes
returns-then-find-clause-bytes g c honest =
    let old = c.args.self.now in
    let worked : old.roots.failed ≡ false = search rules in
    let held = c.find.ensures.found c.if-find.true in
    (held.0, (c.page_number-number.ensures.page (g.D.Disk.seen old.roots.disk) held.0 (sym (old.cached honest worked c.page_number-number.result held.0 held.1.0).1), held.1.1))

pub invariant_of-self-then-is_ok-clause-cached : goal.invariant_of-self-then-is_ok-clause-cached
invariant_of-self-then-is_ok-clause-cached g c honest works =
    let d = g.D.Disk in
    let old = c.args.self.now in
    let new = c.read-answer.new.self in
    let read = c.read-answer.ensures in
    let worked : old.roots.failed ≡ false = search rules in
    let same : d.seen new.disk ≡ d.seen old.roots.disk = read.seen honest in
    let there : c.read-answer.new.into ≡ d.seen old.roots.disk c.page_number-number.result = ok_where_works c.read-answer.result new.failed read.failed works (read.read honest) in
    one_more_agrees c.find.new.self c.keep.new.self (d.seen new.disk) c.page_number-number.result c.read-answer.new.into c.page_number-number.ensures.low
    (there ∙ ap (λ (image : Image). image c.page_number-number.result) (sym same)) c.keep.ensures
    (subst (λ (image : Image). Agrees c.find.new.self image) (sym same)
    (fewer_agree old.cache c.find.new.self (d.seen old.roots.disk) c.find.ensures.kept (old.cached (read.nothing honest).honest worked)))
