use Rattle.std.proofs.Common.{sym, ◌∙◌}
use Rattle.tile_labellings.proofs.Mended.{labelled_now}
use Rattle.tile_labellings.proofs.flooded_block.FloodedBlock.mended.Goals as goal

pub read_changed-requires : goal.read_changed-requires
read_changed-requires g c = record { before = labelled_now c.self.inside.block c.self.inside.labelled c.new-points.result.items c.self.invariant.0 }

pub renewed-spills-requires : goal.renewed-spills-requires
renewed-spills-requires g c = (c.self.inside.labelled, (sym (c.in_ok-mended.ensures.side ∙ (c.in_ok-read_changed.ensures.side c.if-not-branch.false ∙ sym c.self.invariant.0.side)), (c.in_ok-mended.ensures.bands, c.self.invariant.1)))
