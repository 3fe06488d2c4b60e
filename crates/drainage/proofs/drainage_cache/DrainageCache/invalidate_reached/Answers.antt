use Rattle.drainage.proofs.Prelude.{IsNoHigher, Option, Some, TileCache, are_right, refl, subst, sym}
use Rattle.drainage.specs.Between.{are_left}
use Rattle.drainage.specs.Sinks.{highest_level}
use Rattle.drainage.proofs.Caches.Listed.{listed_same}
use Rattle.drainage.proofs.Changes.SinkDownhill.{cached_still}
use Rattle.drainage.proofs.drainage_cache.DrainageCache.invalidate_reached.Goals as goal

pub returns-in_default-clause-right : goal.returns-in_default-clause-right
returns-in_default-clause-right c m new differ still flows right = record {
  tile_cache = subst (are_right new) (sym c.take.ensures.after) tt;
  flow_cache = cached_still m new c.args.self.now.flow_cache flows right.flow_cache;
  corners = listed_same m new differ.same_corners c.args.self.now.corners right.corners;
}

pub returns-clause-left : goal.returns-clause-left
returns-clause-left c =
    let left = c.invalidate_between.new.self in
    subst (λ (held : Option TileCache). are_left c.args.point c.args.point (IsNoHigher (Some highest_level)) held (Some left)) c.in-Some.ensures.value (left, refl, c.invalidate_between.ensures.left)

pub returns-clause-right : goal.returns-clause-right
returns-clause-right c m new differ still flows right = record {
  tile_cache = c.invalidate_between.ensures.right m new differ still (subst (are_right m) (sym c.in-Some.ensures.value) right.tile_cache);
  flow_cache = cached_still m new c.args.self.now.flow_cache flows right.flow_cache;
  corners = listed_same m new differ.same_corners c.args.self.now.corners right.corners;
}
