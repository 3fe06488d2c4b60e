use Rattle.border_graph.proofs.Prelude.{Contains-get_or, IsFound, MosaicGraph, SFits, get_or, rules, subst, sym, to_z-of_z, w16}
use Rattle.border_graph.proofs.mosaic_graph.MosaicGraph.know_all.Goals as goal

pub know-requires : goal.know-requires
know-requires c =
    let nodes = c.args.nodes.now in
    let x = get_or nodes c.loop-node.node-index 0 in
    let in_range : SFits w16 c.args.level = search rules in
    subst (λ v. IsFound c.loop-node.self (get_or nodes c.loop-node.node-index 0) v) (sym (to_z-of_z in_range))
    (subst (λ (g : MosaicGraph). IsFound g (get_or nodes c.loop-node.node-index 0) c.args.level) (sym c.loop-node.invariant) (c.requires x (Contains-get_or nodes c.loop-node.node-index 0 c.loop-node-test.true)))
