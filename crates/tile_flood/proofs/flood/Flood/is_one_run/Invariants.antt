use Rattle.tile_flood.specs.Sparing.{IsRun}
use Rattle.tile_flood.proofs.flood.Flood.is_one_run.Given as goal

abbrev pub invariant-loop-k : goal.invariant-loop-k
invariant-loop-k l = IsRun l.n l.self.levels.items l.self.labels.items l.e l.start l.k l.last
