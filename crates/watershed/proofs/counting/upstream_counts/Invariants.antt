use Rattle.watershed.proofs.Prelude.{AreCounted, AreFilledLevels, IsTrue, Mosaic, Point, ℕ, ℤ, get_or, is_ground, point_of, terrain, ◌<◌, ◌≡◌}
use Rattle.watershed.proofs.counting.upstream_counts.Given as goal

abbrev pub invariant-loop-index : goal.invariant-loop-index
invariant-loop-index g l = record {
  ready : g.F.FlowSource.is_ready l.flows;
  follows : g.F.FlowSource.follows l.fn.flows l.flows;
  keeps : g.F.FlowSource.keeps l.fn.flows l.flows;
  tile : (l.counts.side ≡ l.fn.side) × (l.counts.corner ≡ l.fn.corner);
  counted : (m : Mosaic) (level : Point → ℤ) → g.F.FlowSource.tells l.flows m level → AreFilledLevels (terrain m) level → AreCounted (terrain m) level l.counts;
  known : (m : Mosaic) (level : Point → ℤ) → g.F.FlowSource.tells l.flows m level → AreFilledLevels (terrain m) level → (e : ℕ) → e < l.index → IsTrue (is_ground m (point_of l.fn.side l.fn.corner e)) → get_or l.counts.counts.items e 0 ≡ 0 → ⊥;
}
