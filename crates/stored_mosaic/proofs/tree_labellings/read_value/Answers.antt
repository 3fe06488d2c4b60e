use Rattle.stored_mosaic.proofs.Prelude.{on_ok, staged_in, ◌/◌}
use Rattle.stored_mosaic.proofs.Reading.QueryingPages.{page_of_tile}
use Rattle.stored_mosaic.proofs.Edits.LabelsRead.{two_stand}
use Rattle.stored_mosaic.proofs.tree_labellings.read_value.Goals as goal

pub returns-clause-value : goal.returns-clause-value
returns-clause-value g c honest =
    on_ok c.read_two.result
    (λ held t pages is has all.
    two_stand c.args.tree.now.roots.root.side pages c.args.index held.0 all (page_of_tile c.args.plane (staged_in g.D.Disk c.args.tree.now) c.args.corner t pages (c.args.index / 2048) held.0 is has held.1.0) c.requires.index c.read_two.new.into held.1.1)
    (c.read_two.ensures.two honest)
