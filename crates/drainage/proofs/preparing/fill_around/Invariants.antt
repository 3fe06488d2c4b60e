use Rattle.std.specs.Prelude.{◌≡◌, Ok, length}
use Rattle.drainage.proofs.Prelude.{AreFilledTo, IsRight, OnlyReads, known_of}
use Rattle.drainage.proofs.Tiles.PaddedLevels.{AreStripsTo}
use Rattle.drainage.proofs.preparing.fill_around.Given as goal

abbrev pub invariant-loop-number : goal.invariant-loop-number
invariant-loop-number g l = record {
  reads : OnlyReads {T = Unit {0}} g.S.Samples l.fn.samples l.samples (Ok tt);
  right : g.S.Samples.is_honest l.samples → IsRight (g.S.Samples.mosaic l.samples) (known_of l.tile_cache);
  whole : length l.levels ≡ length l.fn.levels;
  filled : g.S.Samples.is_honest l.samples → AreStripsTo (g.S.Samples.mosaic l.fn.samples) l.corner l.number l.fn.levels l.levels;
}

abbrev pub invariant-loop-at : goal.invariant-loop-at
invariant-loop-at g l = record {
  reads : OnlyReads {T = Unit {0}} g.S.Samples l.initial.samples l.samples (Ok tt);
  right : g.S.Samples.is_honest l.samples → IsRight (g.S.Samples.mosaic l.samples) (known_of l.tile_cache);
  whole : length l.levels ≡ length l.fn.levels;
  filled : g.S.Samples.is_honest l.samples → AreFilledTo (g.S.Samples.mosaic l.fn.samples) l.corner l.strip l.at l.initial.levels l.levels;
}
