use Rattle.watershed.proofs.Prelude.{IsIndexed, IsMarked, Mosaic, Point, ℤ, terrain}
use Rattle.watershed.proofs.Upstream.{IsSearching}
use Rattle.watershed.proofs.search.upstream.Given as goal

abbrev pub invariant-search : goal.invariant-search
invariant-search g l = record {
  ready : g.F.FlowSource.is_ready l.flows;
  follows : g.F.FlowSource.follows l.fn.flows l.flows;
  keeps : g.F.FlowSource.keeps l.fn.flows l.flows;
  indexed : IsIndexed l.marks;
  searching : (m : Mosaic) (level : Point → ℤ) → g.F.FlowSource.tells l.flows m level → IsSearching (terrain m) level l.fn.point (IsMarked l.marks) l.waiting.items;
}

abbrev pub decreases-search : goal.decreases-search
decreases-search g l = l.left
