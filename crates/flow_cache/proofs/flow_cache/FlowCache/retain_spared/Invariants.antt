use Rattle.flow_cache.proofs.Prelude.{AreSpared, IsCovered, Unknown, get_or, length, slot_ranges, ℕ, ◌<◌, ◌≡◌, ◌≤◌}
use Rattle.flow_cache.proofs.flow_cache.FlowCache.retain_spared.Given as goal

abbrev pub invariant-loop-slot : goal.invariant-loop-slot
invariant-loop-slot l = record {
  tiles : l.self.grid.tiles ≡ l.fn.self.grid.tiles;
  whole : length l.self.slots.items ≡ length l.fn.self.slots.items;
  done : (i : ℕ) → i < l.slot → AreSpared l.fn.was l.fn.is (slot_ranges l.fn.self.slots.items i) (slot_ranges l.self.slots.items i);
  rest : (i : ℕ) → l.slot ≤ i → slot_ranges l.self.slots.items i ≡ slot_ranges l.fn.self.slots.items i;
  kept : (k : ℕ) → IsCovered l.self.grid.tiles l.self.slots.items k → get_or l.self.grid.flows.items k Unknown ≡ get_or l.fn.self.grid.flows.items k Unknown;
}
