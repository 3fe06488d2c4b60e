use Rattle.tile_flood.specs.Bands.{AreOffBorders}
use Rattle.tile_flood.proofs.flood.Flood.changed_bands.Given as goal

abbrev pub invariant-loop-k : goal.invariant-loop-k
invariant-loop-k l = AreOffBorders l.n l.self.levels.items l.self.labels.items l.changed.items l.self.affected.items l.k
