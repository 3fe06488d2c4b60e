use Rattle.catalogue.proofs.Prelude.{AreSamplesOf, OnlyReads, length, ◌*◌, ◌≡◌}
use Rattle.std.specs.Prelude.{Ok}
use Rattle.catalogue.proofs.Blocks.{IsPartly}
use Rattle.catalogue.proofs.tile_block.put_rim.Given as goal

abbrev pub invariant-loop-number : goal.invariant-loop-number
invariant-loop-number g l = record {
  reads : OnlyReads {T = Unit {0}} g.S.Samples l.fn.samples l.samples (Ok tt);
  whole : length l.heights ≡ g.S.Samples.side_of l.fn.samples * g.S.Samples.side_of l.fn.samples;
  partly : g.S.Samples.is_honest l.samples
      → AreSamplesOf (g.S.Samples.mosaic l.fn.samples) l.corner 0 l.fn.heights
      → IsPartly (g.S.Samples.mosaic l.fn.samples) l.corner l.number l.heights;
}
