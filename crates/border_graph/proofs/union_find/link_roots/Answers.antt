use Rattle.border_graph.proofs.Forests.Connected.{joined_turn}
use Rattle.border_graph.proofs.union_find.link_roots.Goals as goal

pub returns-then-one-other-clause-over : goal.returns-then-one-other-clause-over
returns-then-one-other-clause-over c passes level joined over = c.set_parent.ensures.over passes level (joined_turn passes level c.args.one c.args.other joined) over
