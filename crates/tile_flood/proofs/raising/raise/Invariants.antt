use Rattle.tile_flood.specs.RaisingLoop.{AreRaisedBelow}
use Rattle.tile_flood.proofs.raising.raise.Given as goal

abbrev pub invariant-loop-e : goal.invariant-loop-e
invariant-loop-e l = AreRaisedBelow l.labelled.side l.labelled.levels l.labelled.labels l.rim l.filled.items l.e
