use Rattle.std.specs.Prelude.{Ok}
use Rattle.levels.proofs.Prelude.{AreRemembered, AreRimPointsIn, IsFlooded, OnlyReads}
use Rattle.levels.proofs.summing.rim_of.Given as goal

abbrev pub invariant-loop-number : goal.invariant-loop-number
invariant-loop-number g l = record {
  reads : OnlyReads {T = Unit {0}} g.S.Samples l.fn.samples l.samples (Ok tt);
  ground_cache : g.S.Samples.is_honest l.samples → AreRemembered (g.S.Samples.mosaic l.samples) l.ground_cache;
  points : g.S.Samples.is_honest l.samples → IsFlooded (g.S.Samples.mosaic l.fn.samples) l.fn.corner l.labelled → AreRimPointsIn (g.S.Samples.mosaic l.fn.samples) l.fn.corner l.labelled.labels l.rim.items l.number;
}
