use Rattle.levels.proofs.Prelude.{KeepsSummary, ◌≡◌}
use Rattle.levels.proofs.Changes.Invalidated.{AreGivenUp}
use Rattle.levels.proofs.rim_graph.RimGraph.note_changed.Given as goal

abbrev pub invariant-loop-t : goal.invariant-loop-t
invariant-loop-t l = record {
  side : l.self.side ≡ l.fn.self.side;
  corners : l.self.corners.items ≡ l.fn.self.corners.items;
  given_up : AreGivenUp (KeepsSummary l.fn.self.side l.fn.self.corners.items l.labellings.held.items l.height) l.fn.self.loaded.items l.t l.self.loaded.items;
}
