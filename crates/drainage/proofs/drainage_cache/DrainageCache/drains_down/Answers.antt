use Rattle.drainage.proofs.Prelude.{flow_cache_right, subst, sym, terrain, ◌∙◌}
use Rattle.drainage.proofs.Changes.SinkDownhill.{down_lower}
use Rattle.drainage.proofs.drainage_cache.DrainageCache.drains_down.Goals as goal

pub returns-in-Some-clause-lower : goal.returns-in-Some-clause-lower
returns-in-Some-clause-lower c down m held level filled =
    let right = subst (flow_cache_right m) c.in-Some.is held.flow_cache in
    down_lower (terrain m) level c.args.point c.flow.result (sym c.is_down.ensures ∙ down) (c.flow.ensures.says (terrain m) level (right.grid.told level filled))
