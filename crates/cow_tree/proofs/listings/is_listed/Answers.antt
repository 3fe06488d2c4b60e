use Rattle.cow_tree.proofs.Prelude.{ap, false≢true, not, sym, ◌∙◌}
use Rattle.catalogue.proofs.Presence.{listed_from}
use Rattle.cow_tree.proofs.listings.is_listed.Goals as goal

pub returns-in-Due-clause-unchanged : goal.returns-in-Due-clause-unchanged
returns-in-Due-clause-unchanged c listed among = false≢true (sym (ap not (c.is_among.ensures ∙ listed_from c.args.corner c.args.changed.now among)) ∙ listed)
