use Rattle.flow_cache.proofs.Prelude.{IsCacheOf, Mosaic, length, ◌≡◌, ◌≤◌}
use Rattle.flow_cache.proofs.flow_cache.FlowCache.keep.Given as goal

abbrev pub invariant-tiles : goal.invariant-tiles
invariant-tiles l = record {
  right : (m : Mosaic) → IsCacheOf m l.fn.self → IsCacheOf m l.self;
  kept : length l.fn.self.grid.flows.items ≤ l.most → l.self ≡ l.fn.self;
}

abbrev pub decreases-tiles : goal.decreases-tiles
decreases-tiles l = length l.self.grid.tiles.corners
