use Rattle.flow_cache.proofs.Prelude.{get_or, ℕ, ◌<◌, ◌≡◌}
use Rattle.flow_d8.specs.Tiles.{no_corner}
use Rattle.flow_cache.proofs.flow_cache.FlowCache.slot_of.Given as goal

abbrev pub invariant-loop-slot : goal.invariant-loop-slot
invariant-loop-slot l = (i : ℕ) → i < l.slot → get_or l.self.grid.tiles.corners i no_corner ≡ l.corner → ⊥
