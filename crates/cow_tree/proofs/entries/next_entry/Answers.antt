use Rattle.cow_tree.proofs.Prelude.{Contains, subst, sym, ◌∙◌}
use Rattle.cow_tree.proofs.entries.next_entry.Goals as goal

pub returns-in-Some : goal.returns-in-Some
returns-in-Some c t has at =
    let found = c.in-Some.ensures in
    c.requires.committed c.in-Some.entry found.committed t (c.requires.changed t has (λ among. found.unchanged (subst (Contains c.args.changed.now) at among))) (at ∙ sym found.corner)
