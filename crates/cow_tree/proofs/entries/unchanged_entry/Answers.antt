use Rattle.cow_tree.proofs.Prelude.{Contains, false≢true, subst, sym, ◌∙◌}
use Rattle.std.proofs.lemmas.Bool.{not-false}
use Rattle.lattice.proofs.CornerOrder.{same_says}
use Rattle.catalogue.proofs.Presence.{listed_from}
use Rattle.cow_tree.proofs.entries.unchanged_entry.Goals as goal

pub returns-clause-committed : goal.returns-clause-committed
returns-clause-committed c = subst (Contains c.args.committed.now) (sym c.entry.view_is) (c.args.place, c.in_ok-entry.ensures.lookup.3.0, sym c.in_ok-entry.ensures.lookup.1)

pub returns-clause-corner : goal.returns-clause-corner
returns-clause-corner c = same_says c.entry.inside.corner c.args.corner (not-false _ (sym c.ne.ensures ∙ c.if-ne.false))

pub returns-clause-unchanged : goal.returns-clause-unchanged
returns-clause-unchanged c among = false≢true (sym c.if-is_among.false ∙ (c.is_among.ensures ∙ listed_from c.args.corner c.args.changed.now among))
