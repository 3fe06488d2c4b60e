use Rattle.drainage.proofs.Prelude.{IsNoHigher, Option, Some, TileCache, flow_cache_right, refl, subst, sym, ◌∙◌, ◌≡◌}
use Rattle.drainage.specs.Between.{are_left, are_right}
use Rattle.drainage.specs.FarTiles.{are_listed}
use Rattle.drainage.proofs.Caches.Listed.{listed_same}
use Rattle.drainage.proofs.drainage_cache.DrainageCache.invalidate_between.Goals as goal

pub returns-clause-left : goal.returns-clause-left
returns-clause-left c =
    let left = c.invalidate_between.new.self in
    subst (λ (held : Option TileCache). are_left c.args.from c.args.to (IsNoHigher c.args.most) held (Some left)) (c.in-Some.ensures.value ∙ c.invalidate_flows.ensures.tile_cache) (left, refl, c.invalidate_between.ensures.left)

pub returns-clause-right : goal.returns-clause-right
returns-clause-right c m new differ still right =
    let held : Some c.in-Some.tile_cache ≡ c.args.self.now.tile_cache = c.in-Some.ensures.value ∙ c.invalidate_flows.ensures.tile_cache in
    record {
      tile_cache = c.invalidate_between.ensures.right m new differ still (subst (are_right m) (sym held) right.tile_cache);
      flow_cache = subst (flow_cache_right new) (sym c.invalidate_flows.ensures.flow_cache) tt;
      corners = subst (are_listed new) (sym c.invalidate_flows.ensures.corners) (listed_same m new differ.same_corners c.args.self.now.corners right.corners);
    }

pub returns-in_default-clause-right : goal.returns-in_default-clause-right
returns-in_default-clause-right c m new differ still right = record {
  tile_cache = subst (are_right new) (sym c.take.ensures.after) tt;
  flow_cache = subst (flow_cache_right new) (sym c.invalidate_flows.ensures.flow_cache) tt;
  corners = subst (are_listed new) (sym c.invalidate_flows.ensures.corners) (listed_same m new differ.same_corners c.args.self.now.corners right.corners);
}
