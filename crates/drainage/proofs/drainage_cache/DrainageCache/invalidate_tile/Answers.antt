use Rattle.drainage.proofs.Prelude.{Corner, FlowCache, IfSome, IsHeldOf, Mosaic, Option, Some, Tile, are_right, false≢true, flow_cache_right, refl, subst, sym, ◌∙◌, ◌≡◌}
use Rattle.std.specs.Global.{Vec}
use Rattle.std.specs.Prelude.{Contains}
use Rattle.catalogue.specs.Tiles.{added, without}
use Rattle.drainage.proofs.Caches.FarTiles.{cache_with, cache_without, far_listed}
use Rattle.drainage.proofs.Caches.Listed.{corners_right, with_comes, with_goes, with_still}
use Rattle.drainage.specs.FarTiles.{are_known_off, are_listed, corners_in, is_far_in}
use Rattle.drainage.proofs.drainage_cache.DrainageCache.invalidate_tile.Goals as goal
use Rattle.drainage.proofs.drainage_cache.DrainageCache.invalidate_tile.Goals.{After-with_corner}

module _ (c : After-with_corner) where
  none : (m : Mosaic) → are_right m c.take_corners-corners.new.self.tile_cache
  none m = subst (are_right m) (sym c.take_corners-corners.ensures.tile_cache) tt

  listed : (m : Mosaic) → IsHeldOf m c.args.self.now → are_listed m c.take_corners-corners.result
  listed m right = subst (are_listed m) (sym c.take_corners-corners.ensures.corners) (corners_right m c.args.self.now.tile_cache c.args.self.now.corners right.tile_cache right.corners)

  listed_still : (m : Mosaic) → IsHeldOf m c.args.self.now → are_listed m c.with_corner.result
  listed_still m right = with_still m c.args.corner c.take_corners-corners.result c.with_corner.result c.with_corner.ensures.among (listed m right)

  listed_with : (m : Mosaic) (t : Tile) → t.corner ≡ c.args.corner → IsHeldOf m c.args.self.now → are_listed (added t m) c.with_corner.result
  listed_with m t at right = with_comes m t c.args.corner c.take_corners-corners.result c.with_corner.result at c.with_corner.ensures.among (listed m right)

  listed_without : (m : Mosaic) → IsHeldOf m c.args.self.now → are_listed (without c.args.corner m) c.with_corner.result
  listed_without m right = with_goes m c.args.corner c.take_corners-corners.result c.with_corner.result c.with_corner.ensures.among (listed m right)

  kept : IfSome (corners_in c.args.self.now.tile_cache c.args.self.now.corners) (λ corners. Contains corners.items c.args.corner → c.with_corner.result ≡ Some corners)
  kept = subst (λ (o : Option (Vec Corner)). IfSome o (λ corners. Contains corners.items c.args.corner → c.with_corner.result ≡ Some corners)) c.take_corners-corners.ensures.corners c.with_corner.ensures.same

  -- what the test tells of the cache as it was
  tested : c.is_far-is_far.result ≡ is_far_in (corners_in c.args.self.now.tile_cache c.args.self.now.corners) c.args.corner
  tested = subst (λ (o : Option (Vec Corner)). c.is_far-is_far.result ≡ is_far_in o c.args.corner) c.take_corners-corners.ensures.corners c.is_far-is_far.ensures

pub returns-then-not-is_far-clause-still : goal.returns-then-not-is_far-clause-still
returns-then-not-is_far-clause-still c m right =
    let a = (goal.at.returns-then-not-is_far-clause-still c).After-with_corner in
    record { tile_cache = none a m; flow_cache = subst (flow_cache_right m) (sym c.take.ensures.after) tt; corners = listed_still a m right }

pub returns-then-not-is_far-clause-comes : goal.returns-then-not-is_far-clause-comes
returns-then-not-is_far-clause-comes c m t at valid right =
    let a = (goal.at.returns-then-not-is_far-clause-comes c).After-with_corner in
    record { tile_cache = none a (added t m); flow_cache = subst (flow_cache_right (added t m)) (sym c.take.ensures.after) tt; corners = listed_with a m t at right }

pub returns-then-not-is_far-clause-goes : goal.returns-then-not-is_far-clause-goes
returns-then-not-is_far-clause-goes c m valid right =
    let a = (goal.at.returns-then-not-is_far-clause-goes c).After-with_corner in
    record { tile_cache = none a (without c.args.corner m); flow_cache = subst (flow_cache_right (without c.args.corner m)) (sym c.take.ensures.after) tt; corners = listed_without a m right }

pub returns-then-not-is_far-clause-kept : goal.returns-then-not-is_far-clause-kept
returns-then-not-is_far-clause-kept c =
    let a = (goal.at.returns-then-not-is_far-clause-kept c).After-with_corner in
    record { flows = λ far. absurd (false≢true (sym c.if-not-is_far.true ∙ (tested a ∙ far))); corners = kept a }

pub returns-in_default-clause-still : goal.returns-in_default-clause-still
returns-in_default-clause-still c m right =
    let a = (goal.at.returns-in_default-clause-still c).After-with_corner in
    record { tile_cache = none a m; flow_cache = subst (flow_cache_right m) (sym c.take.ensures.after) tt; corners = listed_still a m right }

pub returns-in_default-clause-comes : goal.returns-in_default-clause-comes
returns-in_default-clause-comes c m t at valid right =
    let a = (goal.at.returns-in_default-clause-comes c).After-with_corner in
    record { tile_cache = none a (added t m); flow_cache = subst (flow_cache_right (added t m)) (sym c.take.ensures.after) tt; corners = listed_with a m t at right }

pub returns-in_default-clause-goes : goal.returns-in_default-clause-goes
returns-in_default-clause-goes c m valid right =
    let a = (goal.at.returns-in_default-clause-goes c).After-with_corner in
    record { tile_cache = none a (without c.args.corner m); flow_cache = subst (flow_cache_right (without c.args.corner m)) (sym c.take.ensures.after) tt; corners = listed_without a m right }

pub returns-in_default-clause-kept : goal.returns-in_default-clause-kept
returns-in_default-clause-kept c =
    let a = (goal.at.returns-in_default-clause-kept c).After-with_corner in
    record {
      flows = λ far. subst (λ (o : Option FlowCache). are_known_off c.args.corner o c.take.new.self) (c.in_default.ensures.value ∙ a.take_corners-corners.ensures.flow_cache) c.take.ensures.after;
      corners = kept a;
    }

pub returns-clause-still : goal.returns-clause-still
returns-clause-still c m right =
    let a = (goal.at.returns-clause-still c).After-with_corner in
    let held = c.in-Some.ensures.value ∙ a.take_corners-corners.ensures.flow_cache in
    record { tile_cache = none a m; flow_cache = c.evict_tile.ensures.flows m (subst (flow_cache_right m) (sym held) right.flow_cache); corners = listed_still a m right }

pub returns-clause-comes : goal.returns-clause-comes
returns-clause-comes c m t at valid right =
    let a = (goal.at.returns-clause-comes c).After-with_corner in
    let held = c.in-Some.ensures.value ∙ a.take_corners-corners.ensures.flow_cache in
    let far = far_listed m a.take_corners-corners.result c.args.corner (listed a m right) (sym a.is_far-is_far.ensures ∙ c.if-not-is_far.false) in
    record {
      tile_cache = none a (added t m);
      flow_cache = cache_with m valid c.args.corner far c.evict_tile.new.self (c.evict_tile.ensures.flows m (subst (flow_cache_right m) (sym held) right.flow_cache)) c.evict_tile.ensures.gone t at;
      corners = listed_with a m t at right;
    }

pub returns-clause-goes : goal.returns-clause-goes
returns-clause-goes c m valid right =
    let a = (goal.at.returns-clause-goes c).After-with_corner in
    let held = c.in-Some.ensures.value ∙ a.take_corners-corners.ensures.flow_cache in
    let far = far_listed m a.take_corners-corners.result c.args.corner (listed a m right) (sym a.is_far-is_far.ensures ∙ c.if-not-is_far.false) in
    record {
      tile_cache = none a (without c.args.corner m);
      flow_cache = cache_without m valid c.args.corner far c.evict_tile.new.self (c.evict_tile.ensures.flows m (subst (flow_cache_right m) (sym held) right.flow_cache)) c.evict_tile.ensures.gone;
      corners = listed_without a m right;
    }

pub returns-clause-kept : goal.returns-clause-kept
returns-clause-kept c =
    let a = (goal.at.returns-clause-kept c).After-with_corner in
    let held = c.in-Some.ensures.value ∙ a.take_corners-corners.ensures.flow_cache in
    record {
      flows = λ far. subst (λ (o : Option FlowCache). are_known_off c.args.corner o (Some c.evict_tile.new.self)) held (c.evict_tile.new.self, (refl, c.evict_tile.ensures.kept));
      corners = kept a;
    }
