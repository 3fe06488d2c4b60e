use Rattle.edits.proofs.NewHeights.{HaveHeights}
use Rattle.edits.proofs.heights.new_heights.Given as goal

abbrev pub invariant-loop-point : goal.invariant-loop-point
invariant-loop-point g l = HaveHeights g.S.Samples l.point_edit l.points l.point-index l.fn.samples l.samples l.heights.items
