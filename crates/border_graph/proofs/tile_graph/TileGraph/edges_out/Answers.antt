use Rattle.border_graph.proofs.Prelude.{rules, sym, to_z-of_z, w16}
use Rattle.border_graph.proofs.Told.{edges_out}
use Rattle.border_graph.proofs.tile_graph.TileGraph.edges_out.Goals as goal

pub returns : goal.returns
returns c =
    let there = c.in-Some.ensures.some in
    rw (sym c.self.view_is) (edges_out _ _ _ there.0 c.in-Some.point there.1 _ (to_z-of_z {w = w16} {z = c.in-Some.point.height} (search rules)) c.exit_of.ensures.outlet c.exit_of.ensures.label c.row.result.now
    (rw (sym c.spills.ensures) c.row.ensures) _ _ _ c.in_ok-push_out.ensures c.in_ok-push_out-2.ensures)
