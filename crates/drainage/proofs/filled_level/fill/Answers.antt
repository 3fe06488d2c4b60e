use Rattle.catalogue.proofs.Questioned.{asked_reads, refused_after}
use Rattle.drainage.proofs.filled_level.fill.Goals as goal

pub returns-in_err-level-clause-asked : goal.returns-in_err-level-clause-asked
returns-in_err-level-clause-asked g c =
    let a = c.args.samples.now in
    let b = c.check_ground.new.samples in
    refused_after g.S.Samples g.met.S.Samples.keeps_on a b c.level.new.samples c.from_residual-in_err-level.result c.in_err-level.field-0.0 c.from_residual-in_err-level.ensures.1 (asked_reads g.S.Samples a b _ c.in_ok-check_ground.ensures.asked) c.in_err-level.ensures.asked
