use Rattle.stored_mosaic.proofs.Prelude.{Err, Ok, RootValue, ap, asked_answer, read_again, refl, same_mosaic, ◌∙◌}
use Rattle.catalogue.proofs.Asking.{asked_by_reads, asked_on}
use Rattle.catalogue.proofs.Reading.{reads_answered}
use Rattle.catalogue.proofs.Questioned.{answered, passed_on, refused_by}
use Rattle.stored_mosaic.proofs.KeptPlanes.Labelled.{answered_works, may_refuse, not_ready, was_sure}
use Rattle.stored_mosaic.proofs.tree_labellings.TreeSourceLabellings.labelling.Goals as goal

pub returns-in_ok-labelled-clause-asked : goal.returns-in_ok-labelled-clause-asked
returns-in_ok-labelled-clause-asked g c =
    let d = g.D.Disk in
    let old = c.args.self.now.tree.now in
    let new = c.kept_labelling.new.tree in
    let h = c.in_ok-labelled.ensures.reads in
    let reads = h.reads in
    let keeps = reads.keeps in
    asked_answer _ _ _ c.in_ok-labelled.labelled (Ok _) (
    record {
      read = h.read;
      reads = record {
        refusal = may_refuse _ _ h.read reads.refused reads.device;
        only_device = reads.only_device;
        ready = λ _. reads.not_failed;
        unready = not_ready h.read new reads.failed;
        answers = λ never. absurd never;
        never_refuses = λ never. never;
        side = ap (λ (r : RootValue). r.side) keeps.root;
        corners = keeps.corners;
        sinks = keeps.sinks;
        failures = keeps.later;
        honest = λ sure. (was_sure d old new keeps sure.0, sure.1);
        mosaic = λ sure. same_mosaic d old new keeps sure.0.readable.honest;
        keeps = (refl, keeps);
      };
      passed = h.passed;
      own = h.own;
      sound = λ sure _. c.in_ok-labelled.ensures.sound sure.0;
    }) tt (λ _ _ e. absurd (cc))

pub returns-in_err-block-clause-asked : goal.returns-in_err-block-clause-asked
returns-in_err-block-clause-asked g c =
    let d = g.D.Disk in
    let old = c.args.self.now.tree.now in
    let mid = c.past_labelling.new.tree in
    let h = c.in_ok-past.ensures.reads in
    let keeps = h.reads.keeps in
    let why = c.in_err-block.field-0.0 in
    refused_by _ _ _ c.from_residual-in_err-block.result why c.from_residual-in_err-block.ensures.1
    (asked_on _ (λ a b c one two. (two.0 ∙ one.0, read_again d a.tree.now b.tree.now c.tree.now one.1 two.1)) _ _ _ (tt {0}) (Err why)
    (reads_answered _ _ _ (tt {0}) (λ _. answered_works d old mid c.in_ok-past.past h) (λ never. never) (ap (λ (r : RootValue). r.side) keeps.root) keeps.corners keeps.sinks keeps.later
    (λ sure. (was_sure d old mid keeps sure.0, sure.1)) (λ sure. same_mosaic d old mid keeps sure.0.readable.honest) (refl, keeps))
    (passed_on _ _ _ c.flooded.result why c.in_err-block.was (asked_by_reads _ _ _ _ _ _ c.flooded.ensures.reads c.flooded.ensures.refusal)))

pub returns-in_ok-block-clause-asked : goal.returns-in_ok-block-clause-asked
returns-in_ok-block-clause-asked g c =
    let d = g.D.Disk in
    let old = c.args.self.now.tree.now in
    let mid = c.past_labelling.new.tree in
    let h = c.in_ok-past.ensures.reads in
    let keeps = h.reads.keeps in
    asked_on _ (λ a b c one two. (two.0 ∙ one.0, read_again d a.tree.now b.tree.now c.tree.now one.1 two.1)) _ _ _ (tt {0}) (Ok _)
    (reads_answered _ _ _ (tt {0}) (λ _. answered_works d old mid c.in_ok-past.past h) (λ never. never) (ap (λ (r : RootValue). r.side) keeps.root) keeps.corners keeps.sinks keeps.later
    (λ sure. (was_sure d old mid keeps sure.0, sure.1)) (λ sure. same_mosaic d old mid keeps sure.0.readable.honest) (refl, keeps))
    (answered _ _ _ _ c.in_ok-block.ensures.reads)
