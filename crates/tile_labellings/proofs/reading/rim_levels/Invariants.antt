use Rattle.tile_labellings.proofs.Fitting.{AreFirstOfRim}
use Rattle.tile_labellings.proofs.reading.rim_levels.Given as goal

abbrev pub invariant-loop-number : goal.invariant-loop-number
invariant-loop-number l = AreFirstOfRim l.labelled.side l.labelled.levels l.rim.items l.number
