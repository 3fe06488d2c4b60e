use Rattle.border_graph.proofs.Prelude.{refl, rules, sym, to_z-of_z, w16}
use Rattle.border_graph.proofs.Told.{edges_across}
use Rattle.border_graph.proofs.tile_graph.TileGraph.edges_across.Goals as goal

pub returns : goal.returns
returns c =
    let there = c.in-Some.ensures.some in
    rw (sym c.self.view_is) (edges_across _ _ _ there.0 c.in-Some.point there.1 _ (to_z-of_z {w = w16} {z = c.in-Some.point.height} (search rules)) c.self.inside.back.items c.self.invariant c.args.first refl c.row-spills.result.now c.row-back.result.now
    (rw (sym c.spills.ensures) c.row-spills.ensures) (rw (sym c.deref.ensures.value) c.row-back.ensures) _ _ _ _ c.in_ok-push_across.ensures c.in_ok-push_across-2.ensures c.in_ok-push_across-3.ensures)
