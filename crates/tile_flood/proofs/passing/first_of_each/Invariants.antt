use Rattle.labelling.specs.Passing.{AreFirstsBelow}
use Rattle.tile_flood.proofs.passing.first_of_each.Given as goal

abbrev pub invariant-loop-k : goal.invariant-loop-k
invariant-loop-k l = AreFirstsBelow l.sorted l.firsts.items l.k
