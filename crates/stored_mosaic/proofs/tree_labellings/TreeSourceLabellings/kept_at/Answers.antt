use Rattle.stored_mosaic.proofs.Prelude.{Ok, RootValue, ap, asked, asked_answer, read_nothing, reads_nothing, refl, same_mosaic}
use Rattle.stored_mosaic.proofs.KeptPlanes.Labelled.{was_sure, may_refuse, not_ready}
use Rattle.stored_mosaic.proofs.tree_labellings.TreeSourceLabellings.kept_at.Goals as goal

pub returns-then-not-keeps-clause-asked : goal.returns-then-not-keeps-clause-asked
returns-then-not-keeps-clause-asked g c =
    asked _ _ _ (tt {0}) (Ok _) (reads_nothing _ (λ s. (refl, read_nothing g.D.Disk g.met.D.Disk.only_now s.tree.now)) c.args.self.now (tt {0})) tt (λ _ _ e. absurd (cc))

pub returns-clause-asked : goal.returns-clause-asked
returns-clause-asked g c =
    let d = g.D.Disk in
    let old = c.args.self.now.tree.now in
    let new = c.kept_label_at.new.tree in
    let h = c.in_ok-label_at.ensures.reads in
    let reads = h.reads in
    let keeps = reads.keeps in
    asked_answer _ _ _ c.in_ok-label_at.label_at (Ok _) (
    record {
      read = h.read;
      reads = record {
        refusal = may_refuse _ _ h.read reads.refused reads.device;
        only_device = reads.only_device;
        ready = λ _. reads.not_failed;
        unready = not_ready h.read new reads.failed;
        answers = λ never. absurd never;
        never_refuses = λ never. never;
        side = ap (λ (r : RootValue). r.side) keeps.root;
        corners = keeps.corners;
        sinks = keeps.sinks;
        failures = keeps.later;
        honest = λ sure. (was_sure d old new keeps sure.0, sure.1);
        mosaic = λ sure. same_mosaic d old new keeps sure.0.readable.honest;
        keeps = (refl, keeps);
      };
      passed = h.passed;
      own = h.own;
      sound = λ sure _. c.in_ok-label_at.ensures.sound sure.0;
    }) tt (λ _ _ e. absurd (cc))
