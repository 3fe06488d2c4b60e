use Rattle.flow_d8.proofs.Prelude.{AreFlows, AreKnown, IsTellingAll, ℕ, get_or, length, ◌<◌, ◌≡◌}
use Rattle.water.specs.declared.flow.Flow.TheVariants.{Unknown}
use Rattle.flow_d8.specs.Tiles.{OnGround, place_of}
use Rattle.flow_d8.proofs.grid.FlowGrid.resolve_all.Given as goal

abbrev pub invariant-loop-k : goal.invariant-loop-k
invariant-loop-k l = record {
  tiles : l.self.tiles ≡ l.fn.self.tiles;
  known : AreKnown l.self.flows.items;
  whole : length l.self.flows.items ≡ length l.fn.self.flows.items;
  flows : OnGround l.fn.self.tiles l.fn.self.flows.items (λ t level. AreFlows t level (place_of l.self.tiles) l.self.flows.items);
  told : (e : ℕ) → e < l.k → IsTellingAll (get_or l.self.flows.items e Unknown);
}
