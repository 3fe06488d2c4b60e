use Rattle.watershed.proofs.Prelude.{DrainsBack, Mosaic, Point, ℤ, terrain}
use Rattle.watershed.proofs.Feeding.{AreDonorsBy}
use Rattle.watershed.proofs.donors.add_donors.Given as goal

abbrev pub invariant-loop-i : goal.invariant-loop-i
invariant-loop-i g l = (m : Mosaic) (level : Point → ℤ) → g.F.FlowSource.tells l.flows m level → AreDonorsBy (DrainsBack (terrain m) level l.point) l.point l.fn.found.items l.found.items l.i
