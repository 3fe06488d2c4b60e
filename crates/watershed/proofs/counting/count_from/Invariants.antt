use Rattle.watershed.proofs.Prelude.{AreCounted, AreFilledLevels, AreStillCounted, Branch, IsTour, IsTrue, List, Mosaic, Point, ℤ, is_ground, terrain, ◌≡◌}
use Rattle.watershed.specs.Counting.{AreWaiting}
use Rattle.watershed.proofs.counting.count_from.Given as goal

abbrev pub invariant-tour : goal.invariant-tour
invariant-tour g l = record {
  ready : g.F.FlowSource.is_ready l.flows;
  follows : g.F.FlowSource.follows l.fn.flows l.flows;
  keeps : g.F.FlowSource.keeps l.fn.flows l.flows;
  tile : (l.counts.side ≡ l.fn.counts.side) × (l.counts.corner ≡ l.fn.counts.corner);
  tour : (m : Mosaic) (level : Point → ℤ) → g.F.FlowSource.tells l.flows m level → AreFilledLevels (terrain m) level → AreCounted (terrain m) level l.fn.counts → IsTrue (is_ground m l.fn.first)
      → AreStillCounted (terrain m) level l.fn.counts l.counts × IsTour (terrain m) level l.fn.first l.at l.waiting.items;
  kept : (m : Mosaic) (level : Point → ℤ) → g.F.FlowSource.tells l.flows m level → AreFilledLevels (terrain m) level → AreCounted (terrain m) level l.fn.counts → IsTrue (is_ground m l.fn.first)
      → (branches : List Branch) × AreWaiting (terrain m) level l.fn.first l.check.depth branches l.check.point;
}

abbrev pub decreases-tour : goal.decreases-tour
decreases-tour g l = l.left
