use Rattle.levels.proofs.Prelude.{IsTrue, is_corner, rules}
use Rattle.levels.proofs.Changes.Noted.{held_not}
use Rattle.levels.proofs.labelling_cache.index_held.Goals as goal

pub returns-clause-none : goal.returns-clause-none
returns-clause-none c =
    let corner : IsTrue (is_corner c.args.corner) = search rules in
    held_not c.index_in.result c.args.side c.args.corner c.args.point c.edge-edge.ensures.low corner c.index_in.ensures.held.1
