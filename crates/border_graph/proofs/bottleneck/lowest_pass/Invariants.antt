use Rattle.border_graph.proofs.Prelude.{AreOfMosaic, Contains, IsPlacedLink, IsReachedBelow, IsSearching, IsTrue, List, Rim, Settled, Summary, ℕ, ℤ, [], is_among, node_number, true, ◌<◌, ◌^◌, ◌≡◌, ◌≤ℤ◌, ◌⊎◌}
use Rattle.border_graph.proofs.Forests.Left.{left_below}
use Rattle.border_graph.proofs.bottleneck.lowest_pass.Given as goal

abbrev pub invariant-rise : goal.invariant-rise
invariant-rise g l = record {
  fits : (n : ℕ) (summaries : List Summary) → g.G.EdgeSource.fits l.graph n summaries → g.G.EdgeSource.fits l.fn.graph n summaries;
  keeps : g.G.EdgeSource.keeps l.fn.graph l.fn.source l.graph l.source;
  asked : (n : ℕ) (summaries : List Summary) → g.G.EdgeSource.fits l.graph n summaries → (t : ℕ) → g.G.EdgeSource.asked l.graph t → g.G.EdgeSource.asked l.fn.graph t ⊎ ((k : ℕ) × (is_among l.visited (node_number n (Rim t k)) ≡ true));
  none : l.alike.items ≡ [];
  settled : (n : ℕ) (summaries : List Summary) → g.G.EdgeSource.fits l.graph n summaries → AreOfMosaic n summaries → (one : Settled) → Contains l.settled.items one → (0 < one.node) × (IsReachedBelow (IsPlacedLink n summaries) l.start one.crest one.node × (IsTrue one.has_no_lower → (y : ℕ) (level : ℤ) → IsPlacedLink n summaries one.node y level → one.crest ≤ℤ level));
  rising : (n : ℕ) (summaries : List Summary) → g.G.EdgeSource.fits l.graph n summaries → IsSearching (IsPlacedLink n summaries) l.start l.visited l.frontier (AreOfMosaic n summaries);
}

abbrev pub decreases-rise : goal.decreases-rise
decreases-rise g l = left_below (2 ^ 32) (is_among l.visited)
