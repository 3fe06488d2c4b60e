use Rattle.flow_cache.proofs.Prelude.{IsKnownIn, ℕ, ◌<◌, ◌≡◌}
use Rattle.flow_cache.proofs.flow_cache.FlowCache.flow.Given as goal

abbrev pub invariant-loop-slot : goal.invariant-loop-slot
invariant-loop-slot l = record {
  same : l.self ≡ l.fn.self;
  none : (tile : ℕ) → tile < l.slot → IsKnownIn l.fn.self.grid l.point tile → ⊥;
}
