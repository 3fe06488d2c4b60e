use Rattle.stored_mosaic.proofs.Prelude.{Ok, false, read_nothing, rules, sym, ◌∙◌}
use Rattle.stored_mosaic.proofs.KeptPlanes.Labelled.{failed_before, read_so_far, reads_then}
use Rattle.stored_mosaic.proofs.tree_labellings.past_labelling.Goals as goal

pub returns-then-has_failed-clause-reads : goal.returns-then-has_failed-clause-reads
returns-then-has_failed-clause-reads g c = failed_before g.D.Disk g.met.D.Disk.only_now c.args.tree.now (sym c.has_failed.ensures ∙ c.if-has_failed.true)

pub returns-then-is_none-clause-reads : goal.returns-then-is_none-clause-reads
returns-then-is_none-clause-reads g c =
    let tree = c.args.tree.now in
    record {
      read = Ok tt;
      reads = read_so_far g.D.Disk tree tree (read_nothing g.D.Disk g.met.D.Disk.only_now tree) (sym c.has_failed.ensures ∙ c.if-has_failed.false);
      passed = tt;
      own = λ _. tt;
    }

pub returns-in_err-labels-clause-reads : goal.returns-in_err-labels-clause-reads
returns-in_err-labels-clause-reads g c =
    let reads = reads_then g.D.Disk c.args.tree.now c.read_past.new.tree c.read_past-2.new.tree (Ok tt) c.in_ok-levels.ensures.reads c.in_err-labels.ensures.reads in
    search rules

pub returns-in_default-2-clause-reads : goal.returns-in_default-2-clause-reads
returns-in_default-2-clause-reads g c = record {
  read = Ok tt;
  reads = reads_then g.D.Disk c.args.tree.now c.read_past.new.tree c.read_past-2.new.tree (Ok tt) c.in_ok-levels.ensures.reads c.in_ok-labels.ensures.reads;
  passed = tt;
  own = λ _. tt;
}

pub returns-clause-reads : goal.returns-clause-reads
returns-clause-reads g c = record {
  read = Ok tt;
  reads = reads_then g.D.Disk c.args.tree.now c.read_past.new.tree c.read_past-2.new.tree (Ok tt) c.in_ok-levels.ensures.reads c.in_ok-labels.ensures.reads;
  passed = tt;
  own = λ _. tt;
}
