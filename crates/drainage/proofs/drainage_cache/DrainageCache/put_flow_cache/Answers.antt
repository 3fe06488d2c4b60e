use Rattle.drainage.proofs.Prelude.{Some, ap}
use Rattle.drainage.proofs.drainage_cache.DrainageCache.put_flow_cache.Goals as goal

pub returns-clause-right : goal.returns-clause-right
returns-clause-right c m right held = record { tile_cache = held.tile_cache; flow_cache = c.keep.ensures.flows m right; corners = held.corners }

pub returns-clause-kept : goal.returns-clause-kept
returns-clause-kept c few = ap Some (c.keep.ensures.kept few)
