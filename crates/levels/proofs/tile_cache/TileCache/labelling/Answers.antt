use Rattle.levels.proofs.Prelude.{Corner, IsTileLabelling, List, corner_at, subst, ◌≡◌}
use Rattle.levels.proofs.tile_cache.TileCache.labelling.Goals as goal

pub returns-clause-flooded : goal.returns-clause-flooded
returns-clause-flooded c m right =
    let t = c.in_ok-t.t in
    let place : corner_at c.args.self.now.rim_graph.corners.items t ≡ c.args.corner = subst (λ (cs : List Corner). corner_at cs t ≡ c.args.corner) c.deref.ensures.value c.in_ok-t.ensures.some.1 in
    c.in_ok-labelled.ensures.flooded m c.args.corner (λ x at. subst (λ (d : Corner). IsTileLabelling m d x) place (right.labellings t x at))
