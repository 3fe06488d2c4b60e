use Rattle.stored_mosaic.proofs.Prelude.{Ok}
use Rattle.stored_mosaic.proofs.KeptPlanes.Labelled.{reads_then}
use Rattle.stored_mosaic.proofs.tree_labellings.read_label_at.Goals as goal

pub returns-clause-reads : goal.returns-clause-reads
returns-clause-reads g c =
    reads_then g.D.Disk c.args.tree.now c.read_value.new.tree c.read_value-2.new.tree (Ok tt) c.in_ok-read_value.ensures.reads c.in_ok-read_value-2.ensures.reads
