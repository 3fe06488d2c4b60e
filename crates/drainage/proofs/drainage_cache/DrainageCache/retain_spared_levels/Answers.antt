use Rattle.drainage.proofs.Prelude.{Option, Some, TileCache, are_sparing, refl, subst}
use Rattle.drainage.proofs.drainage_cache.DrainageCache.retain_spared_levels.Goals as goal

pub returns : goal.returns
returns c = record {
  tile_cache = subst (λ (held : Option TileCache). are_sparing c.args.heights.now held (Some c.retain_spared_levels.new.self)) c.in-Some.ensures.value (c.retain_spared_levels.new.self, refl, c.retain_spared_levels.ensures);
  flow_cache = refl;
  corners = refl;
}
