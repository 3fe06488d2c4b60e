use Rattle.stored_mosaic.proofs.Prelude.{NoMemory, arith, read_again}
use Rattle.stored_mosaic.proofs.KeptPlanes.Labelled.{read_so_far}
use Rattle.stored_mosaic.proofs.tree_labellings.read_past.Goals as goal

pub loop-i-preserved : goal.loop-i-preserved
loop-i-preserved g c =
    let so_far = c.loop-i.invariant in
    let reads = c.read_past_page.ensures.reads in
    record {
      keeps = read_again g.D.Disk c.args.tree.now c.loop-i.tree c.read_past_page.new.tree so_far.keeps reads.keeps;
      works = reads.not_failed;
      long = omega (arith, c.in_ok-extend_from_slice.ensures.len, c.read_past_page.array_long, so_far.long);
    }

pub returns-then-not-read_past_page-clause-reads : goal.returns-then-not-read_past_page-clause-reads
returns-then-not-read_past_page-clause-reads g c =
    let reads = c.read_past_page.ensures.reads in
    read_so_far g.D.Disk c.args.tree.now c.read_past_page.new.tree (read_again g.D.Disk c.args.tree.now c.loop-i.tree c.read_past_page.new.tree c.loop-i.invariant.keeps reads.keeps) reads.not_failed

pub returns-in_err-extend_from_slice-clause-reads : goal.returns-in_err-extend_from_slice-clause-reads
returns-in_err-extend_from_slice-clause-reads g c =
    let reads = c.read_past_page.ensures.reads in
    read_so_far g.D.Disk c.args.tree.now c.read_past_page.new.tree (read_again g.D.Disk c.args.tree.now c.loop-i.tree c.read_past_page.new.tree c.loop-i.invariant.keeps reads.keeps) reads.not_failed
