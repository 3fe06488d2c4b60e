use Rattle.std.proofs.Common.{ℤ, IsTrue, subst, List, All}
use Rattle.catalogue.proofs.Prelude.{IsSample, is_corner}
use Rattle.catalogue.proofs.Entries.{added_is, added_valid}
use Rattle.catalogue.proofs.table.Table.add.Goals as goal

pub invariant_of-self : goal.invariant_of-self
invariant_of-self c =
    let corner : IsTrue (is_corner c.args.corner) = c.corner_in_range.ensures in
    let samples : All IsSample c.args.samples.items = subst (λ (l : List ℤ). All IsSample l) c.deref.ensures.value c.samples_in_range.ensures in
    added_valid _ _ _ _ _ c.self.view_is c.self.invariant _ c.args.samples corner c.requires.whole samples c.requires.absent c.in-Ok.ensures.entries

pub returns-in-Ok-clause-added : goal.returns-in-Ok-clause-added
returns-in-Ok-clause-added c = added_is _ _ _ _ _ c.self.view_is c.self.invariant _ c.args.samples c.requires.absent c.in-Ok.ensures.entries

pub returns-in-Ok-clause-valid : goal.returns-in-Ok-clause-valid
returns-in-Ok-clause-valid c =
    let corner : IsTrue (is_corner c.args.corner) = c.corner_in_range.ensures in
    let samples : All IsSample c.args.samples.items = subst (λ (l : List ℤ). All IsSample l) c.deref.ensures.value c.samples_in_range.ensures in
    added_valid _ _ _ _ _ c.self.view_is c.self.invariant _ c.args.samples corner c.requires.whole samples c.requires.absent c.in-Ok.ensures.entries
