use Rattle.border_graph.proofs.Forests.Roots.{fewer_tops, set_over}
use Rattle.border_graph.proofs.union_find.set_parent.Goals as goal

pub returns-clause-fewer : goal.returns-clause-fewer
returns-clause-fewer c = fewer_tops _ c.args.parent.now c.args.later c.args.earlier c.requires.inside c.requires.inside c.requires.before c.requires.top

pub returns-clause-over : goal.returns-clause-over
returns-clause-over c passes level joined over = set_over c.args.parent.now c.args.later c.args.earlier c.requires.inside passes level joined over
