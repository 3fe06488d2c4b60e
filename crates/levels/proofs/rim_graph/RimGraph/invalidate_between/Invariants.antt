use Rattle.levels.proofs.Prelude.{ℕ, false, is_reached, ◌≡◌}
use Rattle.levels.proofs.Changes.Invalidated.{AreGivenUp}
use Rattle.levels.proofs.rim_graph.RimGraph.invalidate_between.Given as goal

abbrev pub invariant-loop-t : goal.invariant-loop-t
invariant-loop-t l = record {
  side : l.self.side ≡ l.fn.self.side;
  corners : l.self.corners.items ≡ l.fn.self.corners.items;
  given_up : AreGivenUp (λ (u : ℕ). is_reached l.fn.self.side l.fn.self.corners.items l.from l.to u ≡ false) l.fn.self.loaded.items l.t l.self.loaded.items;
}
