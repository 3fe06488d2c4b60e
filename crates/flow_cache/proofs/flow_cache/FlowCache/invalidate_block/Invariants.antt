use Rattle.flow_cache.proofs.Prelude.{◌≡◌}
use Rattle.flow_cache.specs.FlowCaches.{AreInvalidatedBy}
use Rattle.flow_cache.proofs.flow_cache.FlowCache.invalidate_block.Given as goal

abbrev pub invariant-loop-row : goal.invariant-loop-row
invariant-loop-row l = record {
  tiles : l.self.grid.tiles ≡ l.fn.self.grid.tiles;
  slots : l.self.slots.items ≡ l.fn.self.slots.items;
  flows : AreInvalidatedBy l.slot l.block l.fn.self.grid.tiles.side l.row l.fn.self.grid.flows.items l.self.grid.flows.items;
}
