use Rattle.std.specs.Prelude.{Ok}
use Rattle.levels.proofs.Prelude.{AreRimLevelsTo, IsRight, OnlyReads, known_of}
use Rattle.levels.proofs.raised_levels.rim_levels.Given as goal

abbrev pub invariant-loop-number : goal.invariant-loop-number
invariant-loop-number g l = record {
  reads : OnlyReads {T = Unit {0}} g.S.Samples l.fn.samples l.samples (Ok tt);
  right : g.S.Samples.is_honest l.samples → IsRight (g.S.Samples.mosaic l.samples) (known_of l.tile_cache);
  levels : g.S.Samples.is_honest l.samples → AreRimLevelsTo (g.S.Samples.mosaic l.fn.samples) l.corner l.number l.rim.items;
}
