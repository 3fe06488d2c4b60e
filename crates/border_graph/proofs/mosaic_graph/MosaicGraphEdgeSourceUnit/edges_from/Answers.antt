use Rattle.border_graph.proofs.Prelude.{AreTileEdges, Corner, IsGraphOf, List, length, rules, subst, sym, ◌<◌, ◌≤◌}
use Rattle.border_graph.proofs.MosaicGraphs.{no_edges, all_edges, exact_edges}
use Rattle.border_graph.proofs.mosaic_graph.MosaicGraphEdgeSourceUnit.edges_from.Goals as goal

pub returns-then-t-len-clause-answer : goal.returns-then-t-len-clause-answer
returns-then-t-len-clause-answer c n summaries is of =
    let was = c.self.inside in
    let at = c.rim_point_at-t.ensures in
    let past : length c.self.inside.graphs.items ≤ c.rim_point_at-t.result.0 = (let far = c.if-t-len.true in let size = c.len.ensures in search rules) in
    no_edges was.side was.corners.items was.graphs.items was.levels.items c.self.invariant n summaries (subst (IsGraphOf n summaries) (sym c.self.view_is) is)
    c.args.node c.rim_point_at-t.result.0 c.rim_point_at-t.result.1 at.low at.number at.node past c.args.into.now.items c.requires.empty

pub returns-then-t-len-clause-all : goal.returns-then-t-len-clause-all
returns-then-t-len-clause-all c n summaries is =
    let was = c.self.inside in
    let at = c.rim_point_at-t.ensures in
    let past : length c.self.inside.graphs.items ≤ c.rim_point_at-t.result.0 = (let far = c.if-t-len.true in let size = c.len.ensures in search rules) in
    (no_edges was.side was.corners.items was.graphs.items was.levels.items c.self.invariant n summaries (subst (IsGraphOf n summaries) (sym c.self.view_is) is)
    c.args.node c.rim_point_at-t.result.0 c.rim_point_at-t.result.1 at.low at.number at.node past c.args.into.now.items c.requires.empty).all

pub returns-clause-all : goal.returns-clause-all
returns-clause-all c n summaries is =
    let was = c.self.inside in
    let at = c.rim_point_at-t.ensures in
    let small : c.rim_point_at-t.result.0 < length c.self.inside.graphs.items = (let near = c.if-t-len.false in let size = c.len.ensures in search rules) in
    all_edges was.side was.corners.items was.graphs.items was.levels.items c.self.invariant n summaries (subst (IsGraphOf n summaries) (sym c.self.view_is) is)
    c.args.node c.rim_point_at-t.result.0 c.rim_point_at-t.result.1 at.low at.number at.node small c.index.result.now c.index.ensures c.args.into.now.items c.list_edges.new.into.items c.requires.empty
    (subst (λ (cs : List Corner). AreTileEdges was.side cs c.index.result.now c.rim_point_at-t.result.0 c.rim_point_at-t.result.1 c.args.into.now.items c.list_edges.new.into.items) c.deref.ensures.value c.in_ok-list_edges.ensures.edges)

pub returns-clause-answer : goal.returns-clause-answer
returns-clause-answer c n summaries is of =
    let was = c.self.inside in
    let at = c.rim_point_at-t.ensures in
    let small : c.rim_point_at-t.result.0 < length c.self.inside.graphs.items = (let near = c.if-t-len.false in let size = c.len.ensures in search rules) in
    exact_edges was.side was.corners.items was.graphs.items was.levels.items c.self.invariant n summaries (subst (IsGraphOf n summaries) (sym c.self.view_is) is)
    c.args.node c.rim_point_at-t.result.0 c.rim_point_at-t.result.1 at.low at.number at.node small c.index.result.now c.index.ensures c.args.into.now.items c.list_edges.new.into.items c.requires.empty
    (subst (λ (cs : List Corner). AreTileEdges was.side cs c.index.result.now c.rim_point_at-t.result.0 c.rim_point_at-t.result.1 c.args.into.now.items c.list_edges.new.into.items) c.deref.ensures.value c.in_ok-list_edges.ensures.edges)
    of
