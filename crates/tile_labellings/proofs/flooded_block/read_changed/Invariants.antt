use Rattle.std.specs.Prelude.{◌≡◌, Ok}
use Rattle.catalogue.specs.Readers.{OnlyReads}
use Rattle.tile_flood.specs.Mending.{IsLabelledBefore}
use Rattle.tile_labellings.specs.Labellings.{IsBlockBut}
use Rattle.tile_labellings.proofs.Mended.{AreRead}
use Rattle.tile_labellings.proofs.flooded_block.read_changed.Given as goal

abbrev pub invariant-loop-k : goal.invariant-loop-k
invariant-loop-k g l = record {
  reads : OnlyReads {T = Unit {0}} g.S.Samples l.fn.samples l.samples (Ok tt);
  before : IsLabelledBefore l.block l.points.items l.labelled.levels l.labelled.labels;
  side : l.block.side ≡ l.fn.block.side;
  right : g.S.Samples.is_honest l.samples → IsBlockBut (g.S.Samples.mosaic l.fn.samples) l.corner l.changed l.fn.block → AreRead (g.S.Samples.mosaic l.fn.samples) l.corner l.changed l.k l.block;
}
