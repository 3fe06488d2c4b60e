use Rattle.drainage.proofs.Prelude.{AreFlowsLeft, DrainageCache, IsSpared, Option, SFits, Some, TileCache, ℤ, are_noted, are_right, levels_pass, of_z, refl, rules, subst, sym, to_z, to_z-of_z, w16, ◌∙◌, ◌≡◌}
use Rattle.drainage.proofs.Caches.CacheStill.{flows_left, flows_set}
use Rattle.drainage.proofs.Caches.Listed.{listed_same}
use Rattle.drainage.specs.FarTiles.{are_listed}
use Rattle.drainage.proofs.drainage_cache.DrainageCache.note_changed.Goals as goal

-- the heights are the same after conversion to machine form
flows_as : (was is : ℤ) (held left : DrainageCache) → SFits w16 was → SFits w16 is → AreFlowsLeft (to_z w16 (of_z w16 was)) (to_z w16 (of_z w16 is)) held left → AreFlowsLeft was is held left
flows_as was is held left had fits are =
    subst (λ (u : ℤ). AreFlowsLeft u is held left) (to_z-of_z w16 was had) (subst (λ (v : ℤ). AreFlowsLeft (to_z w16 (of_z w16 was)) v held left) (to_z-of_z w16 is fits) are)

pub returns-clause-flows : goal.returns-clause-flows
returns-clause-flows c =
    let h = c.args.height.now in
    flows_as h.was h.metres c.args.self.now c.retain_spared_flows.new.self (search rules) (search rules) c.retain_spared_flows.ensures.left

pub returns-in_default-clause-right : goal.returns-in_default-clause-right
returns-in_default-clause-right c m new valid differ was set pass right =
    let h = c.args.height.now in
    record {
      tile_cache = subst (are_right new) (sym c.take.ensures.after) tt;
      flow_cache = flows_set m new h.point valid differ h.was h.metres was set c.args.self.now c.retain_spared_flows.new.self (flows_as h.was h.metres c.args.self.now c.retain_spared_flows.new.self (search rules) (search rules) c.retain_spared_flows.ensures.left) right;
      corners = subst (are_listed new) (sym c.retain_spared_flows.ensures.corners) (listed_same m new differ.around.same_corners c.args.self.now.corners right.corners);
    }

pub returns-in_default-clause-still : goal.returns-in_default-clause-still
returns-in_default-clause-still c m right =
    let h = c.args.height.now in
    record {
      tile_cache = subst (are_right m) (sym c.take.ensures.after) tt;
      flow_cache = flows_left m h.was h.metres c.args.self.now c.retain_spared_flows.new.self (flows_as h.was h.metres c.args.self.now c.retain_spared_flows.new.self (search rules) (search rules) c.retain_spared_flows.ensures.left) right;
      corners = subst (are_listed m) (sym c.retain_spared_flows.ensures.corners) right.corners;
    }

pub returns-clause-left : goal.returns-clause-left
returns-clause-left c =
    let h = c.args.height.now in
    let left = c.note_changed.new.self in
    subst (λ (held : Option TileCache). are_noted h held (Some left)) (c.in-Some.ensures.value ∙ c.retain_spared_flows.ensures.tile_cache) (left, refl, c.note_changed.ensures.left)

pub returns-clause-right : goal.returns-clause-right
returns-clause-right c m new valid differ was set pass right =
    let h = c.args.height.now in
    let held : Some c.in-Some.tile_cache ≡ c.args.self.now.tile_cache = c.in-Some.ensures.value ∙ c.retain_spared_flows.ensures.tile_cache in
    record {
      tile_cache = c.note_changed.ensures.right m new differ was set (subst (levels_pass (IsSpared h.was h.metres)) (sym held) pass) (subst (are_right m) (sym held) right.tile_cache);
      flow_cache = flows_set m new h.point valid differ h.was h.metres was set c.args.self.now c.retain_spared_flows.new.self (flows_as h.was h.metres c.args.self.now c.retain_spared_flows.new.self (search rules) (search rules) c.retain_spared_flows.ensures.left) right;
      corners = subst (are_listed new) (sym c.retain_spared_flows.ensures.corners) (listed_same m new differ.around.same_corners c.args.self.now.corners right.corners);
    }

pub returns-clause-still : goal.returns-clause-still
returns-clause-still c m right =
    let h = c.args.height.now in
    let held : Some c.in-Some.tile_cache ≡ c.args.self.now.tile_cache = c.in-Some.ensures.value ∙ c.retain_spared_flows.ensures.tile_cache in
    record {
      tile_cache = c.note_changed.ensures.still m (subst (are_right m) (sym held) right.tile_cache);
      flow_cache = flows_left m h.was h.metres c.args.self.now c.retain_spared_flows.new.self (flows_as h.was h.metres c.args.self.now c.retain_spared_flows.new.self (search rules) (search rules) c.retain_spared_flows.ensures.left) right;
      corners = subst (are_listed m) (sym c.retain_spared_flows.ensures.corners) right.corners;
    }
