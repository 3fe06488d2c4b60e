use Rattle.border_graph.proofs.Prelude.{AreJoined, subst, sym}
use Rattle.border_graph.proofs.Forests.Connected.{joined_turn, joined_on}
use Rattle.border_graph.proofs.union_find.union.Goals as goal

pub returns-then-one-other-clause-over : goal.returns-then-one-other-clause-over
returns-then-one-other-clause-over c passes level joined over = c.find-other.ensures.over passes level (c.find-one.ensures.over passes level over)

pub returns-then-one-other-clause-together : goal.returns-then-one-other-clause-together
returns-then-one-other-clause-together c false_ passes level over =
    joined_on passes level c.args.a c.find-one.result c.args.b (c.find-one.ensures.joined passes level over)
    (subst (λ v. AreJoined passes level v c.args.b) (sym c.if-one-other.true) (joined_turn passes level c.args.b c.find-other.result (c.find-other.ensures.joined passes level (c.find-one.ensures.over passes level over))))

pub returns-clause-over : goal.returns-clause-over
returns-clause-over c passes level joined over =
    let first = c.find-one.ensures.over passes level over in
    c.link_roots.ensures.over passes level
    (joined_on passes level c.find-one.result c.args.a c.find-other.result (joined_turn passes level c.args.a c.find-one.result (c.find-one.ensures.joined passes level over))
    (joined_on passes level c.args.a c.args.b c.find-other.result joined (c.find-other.ensures.joined passes level first)))
    (c.find-other.ensures.over passes level first)
