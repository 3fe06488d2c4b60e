use Rattle.border_graph.proofs.Prelude.{IsFound, MosaicGraph, SFits, ap, get_or, graph_of, of_z, rules, subst, sym, to_z, to_z-of_z, void, w16, ◌∙◌, ◌≡◌, ◌≢◌}
use Rattle.border_graph.proofs.mosaic_graph.MosaicGraph.level.Goals as goal

pub returns-else-level : goal.returns-else-level
returns-else-level c =
    let was = c.self.inside in
    let level = c.in_ok-level.field-0.now in
    let in_range : SFits w16 c.in_ok-level.field-0.now = search rules in
    let at : get_or c.self.inside.levels.items c.args.node void ≡ c.in_ok-level.field-0.now = search rules in
    let full : get_or c.self.inside.levels.items c.args.node void ≢ void = λ gap. c.if-level.false (ap (of_z w16) (sym at ∙ gap)) in
    subst (λ (g : MosaicGraph). IsFound g c.args.node (to_z w16 (of_z w16 c.in_ok-level.field-0.now))) c.self.view_is
    (subst (λ v. IsFound (graph_of was.side was.graphs.items) c.args.node v) (at ∙ sym (to_z-of_z in_range)) (c.self.invariant.found c.args.node full))
