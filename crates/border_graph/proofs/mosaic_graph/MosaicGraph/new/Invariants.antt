use Rattle.border_graph.proofs.Prelude.{ℕ, corner_at, get_or, length, summary_at, ◌<◌, ◌≡◌}
use Rattle.border_graph.proofs.MosaicGraphs.{IsGraphWith, no_graph}
use Rattle.border_graph.proofs.mosaic_graph.MosaicGraph.new.Given as goal

abbrev pub invariant-loop-t : goal.invariant-loop-t
invariant-loop-t l = record {
  many : length l.corners.items ≡ l.t;
  whole : length l.graphs.items ≡ l.t;
  places : (t : ℕ) → t < l.t → corner_at l.corners.items t ≡ (summary_at l.summaries t).corner;
  graphs : (t : ℕ) → t < l.t → IsGraphWith l.side (summary_at l.summaries t) (get_or l.graphs.items t no_graph);
}
