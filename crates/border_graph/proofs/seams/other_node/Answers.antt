use Rattle.border_graph.proofs.Prelude.{ap, index_below, refl, rim_number_below, subst, sym, ◌*◌, ◌+◌, ◌-◌, ◌<◌, ◌∙◌}
use Rattle.border_graph.proofs.Forests.Others.{too_many, one_node}
use Rattle.border_graph.proofs.seams.other_node.Goals as goal

pub returns-in_default-node_at-clause-refusal : goal.returns-in_default-node_at-clause-refusal
returns-in_default-node_at-clause-refusal c =
    let below = rim_number_below c.args.side c.in-Some-index_in.index c.edge-edge.ensures.low (index_below c.args.side c.args.corner c.args.point c.in-Some-index_in.index c.in-Some-index_in.ensures.index) in
    (refl, too_many c.args.side c.args.corners.now c.in-Some.u c.rim_number.result c.in-Some.ensures.some.0 (subst (λ l. l < 4 * (c.args.side - 1)) (sym c.rim_number.ensures) below) c.in_default-node_at.ensures.none)

pub returns-clause-node : goal.returns-clause-node
returns-clause-node c =
    let found = c.in-Some.ensures.some in
    one_node c.args.side c.args.corners.now c.args.t c.args.point c.args.corner c.in-Some.u c.in-Some-index_in.index _ found.0 found.1 (λ same. c.if-u-t.false (sym same)) c.in-Some-index_in.ensures.index
    (c.in-Some-node_at.ensures.some ∙ ap (λ l. 1 + c.in-Some.u * (4 * (c.args.side - 1)) + l) c.rim_number.ensures)
