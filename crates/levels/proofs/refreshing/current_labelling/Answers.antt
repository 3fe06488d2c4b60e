use Rattle.std.proofs.Common.{true≢false, sym, ◌∙◌}
use Rattle.catalogue.proofs.Questioned.{answered, stopped_here}
use Rattle.levels.proofs.refreshing.current_labelling.Goals as goal

pub returns-then-not-present-clause-asked : goal.returns-then-not-present-clause-asked
returns-then-not-present-clause-asked g c there =
    stopped_here g.S.Samples g.met.S.Samples.keeps_itself c.args.samples.now (λ honest.
    absurd (true≢false (sym (c.present.ensures.answer.1 (there honest)) ∙ c.if-not-present.true)))

pub returns-in-Some-clause-asked : goal.returns-in-Some-clause-asked
returns-in-Some-clause-asked g c there = answered g.S.Samples c.args.samples.now c.refreshed.new.samples c.in-Some.refreshed c.in_ok-refreshed.ensures.reads
