use Rattle.cow_tree.proofs.Prelude.{arith, length, staged_in, tile_at_corner}
use Rattle.cow_tree.proofs.SampleReads.{part_read}
use Rattle.cow_tree.proofs.TreeReads.{was_readable}
use Rattle.cow_tree.proofs.samples.read_part.Goals as goal

pub scan_page-requires-clause-held : goal.scan_page-requires-clause-held
scan_page-requires-clause-held g c = tile_at_corner c.args.c c.args.tree.now.page_map.staged c.requires.present

pub returns-clause-samples : goal.returns-clause-samples
returns-clause-samples g c readable =
    let old = c.args.tree.now in
    let was = was_readable g.D.Disk old c.scan_page.new.self c.in_ok-scan_page.ensures.reads.keeps readable in
    part_read old.roots.root.side old.sinks.points (staged_in g.D.Disk old) c.args.c c.args.first (length c.args.into.now) _ c.scan_page.new.into c.read_samples.new.samples was.valid was.pages
    (omega arith) c.requires.one_page c.requires.range (omega arith) c.read_samples.ensures (c.in_ok-scan_page.ensures.page readable.honest)
