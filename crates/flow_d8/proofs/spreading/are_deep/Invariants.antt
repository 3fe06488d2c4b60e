use Rattle.flow_d8.specs.Marks.{AreDeep}
use Rattle.flow_d8.proofs.spreading.are_deep.Given as goal

abbrev pub invariant-loop-i : goal.invariant-loop-i
invariant-loop-i l = AreDeep l.tiles.side l.wave l.i l.deep.items
