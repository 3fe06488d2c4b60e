use Rattle.drainage.proofs.Prelude.{flow_cache_right, subst}
use Rattle.drainage.proofs.drainage_cache.DrainageCache.sample_flow.Goals as goal

pub returns-in-Some : goal.returns-in-Some
returns-in-Some c m held level filled = c.sample_flow.ensures m (subst (flow_cache_right m) c.in-Some.is held.flow_cache) level filled
