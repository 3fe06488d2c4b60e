use Rattle.flow_cache.proofs.Prelude.{AreSparedAround, IsAffected, IsByBlock, Unknown, get_or, slot_ranges, ℕ, ◌%◌, ◌*◌, ◌+◌, ◌/◌, ◌<◌, ◌≡◌, range_at}
use Rattle.flow_cache.proofs.flow_cache.FlowCache.invalidate_affected.Given as goal

abbrev pub invariant-loop-block : goal.invariant-loop-block
invariant-loop-block l = record {
  tiles : l.self.grid.tiles ≡ l.fn.self.grid.tiles;
  slots : l.self.slots.items ≡ l.fn.self.slots.items;
  kept : (k : ℕ) → (k / (l.fn.self.grid.tiles.side * l.fn.self.grid.tiles.side) ≡ l.slot
      → AreSparedAround l.fn.was l.fn.is (slot_ranges l.fn.self.slots.items l.slot) l.fn.self.grid.tiles.side (k % (l.fn.self.grid.tiles.side * l.fn.self.grid.tiles.side)))
      → get_or l.self.grid.flows.items k Unknown ≡ get_or l.fn.self.grid.flows.items k Unknown;
  gone : (b : ℕ) → b < l.block → IsAffected l.fn.was l.fn.is (range_at (slot_ranges l.fn.self.slots.items l.slot) b) → (e : ℕ) → e < l.fn.self.grid.tiles.side * l.fn.self.grid.tiles.side → IsByBlock l.fn.self.grid.tiles.side e b
      → get_or l.self.grid.flows.items (l.slot * (l.fn.self.grid.tiles.side * l.fn.self.grid.tiles.side) + e) Unknown ≡ Unknown;
  fewer : (k : ℕ) → (get_or l.self.grid.flows.items k Unknown ≡ Unknown → ⊥) → get_or l.self.grid.flows.items k Unknown ≡ get_or l.fn.self.grid.flows.items k Unknown;
}
