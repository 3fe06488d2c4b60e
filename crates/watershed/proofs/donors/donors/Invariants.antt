use Rattle.watershed.proofs.Prelude.{AreToldBy, DrainsBack, Mosaic, Point, ℤ, length, terrain, ◌≡◌}
use Rattle.watershed.proofs.donors.donors.Given as goal

abbrev pub invariant-loop-i : goal.invariant-loop-i
invariant-loop-i g l = record {
  ready : g.F.FlowSource.is_ready l.flows;
  follows : g.F.FlowSource.follows l.fn.flows l.flows;
  keeps : g.F.FlowSource.keeps l.fn.flows l.flows;
  whole : length l.donors ≡ 8;
  told : (m : Mosaic) (level : Point → ℤ) → g.F.FlowSource.tells l.flows m level → AreToldBy (DrainsBack (terrain m) level l.point) l.donors l.i;
}
