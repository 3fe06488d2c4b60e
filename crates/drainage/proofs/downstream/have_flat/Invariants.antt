use Rattle.drainage.proofs.Prelude.{AreFlowsFor, IsHeldFor, Ok, OnlyReads, most_samples, ◌-◌, ◌≡◌, ◌≤◌}
use Rattle.flow_d8.specs.FlowGrids.{KeepsKnown}
use Rattle.flow_cache.specs.FlowCaches.{known_count}
use Rattle.drainage.proofs.downstream.have_flat.Given as goal

abbrev pub invariant-tiles : goal.invariant-tiles
invariant-tiles g l = record {
  reads : OnlyReads {T = Unit {0}} g.S.Samples l.fn.samples l.samples (Ok tt);
  held : IsHeldFor g.S.Samples l.samples l.held;
  right : AreFlowsFor g.S.Samples l.samples l.flows;
  kept : KeepsKnown l.fn.flows.grid.tiles l.fn.flows.grid.flows.items l.flows.grid.tiles l.flows.grid.flows.items;
  more : known_count l.fn.flows.grid.flows.items ≤ known_count l.flows.grid.flows.items;
  side : l.flows.grid.tiles.side ≡ l.fn.flows.grid.tiles.side;
}

abbrev pub decreases-tiles : goal.decreases-tiles
decreases-tiles g l = most_samples - known_count l.flows.grid.flows.items
