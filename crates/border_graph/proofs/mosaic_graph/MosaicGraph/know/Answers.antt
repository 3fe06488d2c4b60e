use Rattle.border_graph.proofs.Prelude.{IsFound, MosaicGraph, SFits, graph_of, of_z, rules, subst, sym, to_z, to_z-of_z, w16}
use Rattle.border_graph.proofs.MosaicGraphs.{found_more}
use Rattle.border_graph.proofs.mosaic_graph.MosaicGraph.know.Goals as goal

pub invariant_of-self : goal.invariant_of-self
invariant_of-self c =
    let was = c.self.inside in
    let in_range : SFits w16 c.args.level = search rules in
    found_more was.side was.corners.items was.graphs.items was.levels.items c.args.node (to_z w16 (of_z w16 c.args.level)) (let less = c.if-place-len.true in let size = c.len.ensures in search rules)
    (subst (λ v. IsFound (graph_of was.side was.graphs.items) c.args.node v) (sym (to_z-of_z in_range)) (subst (λ (g : MosaicGraph). IsFound g c.args.node c.args.level) (sym c.self.view_is) c.requires))
    c.self.invariant
