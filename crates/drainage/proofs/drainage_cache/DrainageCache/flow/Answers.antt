use Rattle.drainage.proofs.Prelude.{flow_cache_right, subst}
use Rattle.flow_cache.proofs.Caches.FlowCaches.{same_cache}
use Rattle.drainage.proofs.drainage_cache.DrainageCache.flow.Goals as goal

pub returns-in-Some-clause-left : goal.returns-in-Some-clause-left
returns-in-Some-clause-left c m held = record {
  tile_cache = held.tile_cache;
  flow_cache = same_cache m c.in-Some.flow_cache c.flow.new.self c.flow.ensures.grid c.flow.ensures.ranges (subst (flow_cache_right m) c.in-Some.is held.flow_cache);
  corners = held.corners;
}

pub returns-in-Some-clause-flow : goal.returns-in-Some-clause-flow
returns-in-Some-clause-flow c m held level filled = c.flow.ensures.flow m (subst (flow_cache_right m) c.in-Some.is held.flow_cache) level filled
