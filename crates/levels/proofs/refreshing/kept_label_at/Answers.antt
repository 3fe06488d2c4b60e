use Rattle.std.proofs.Common.{true≢false, sym, ◌∙◌}
use Rattle.catalogue.proofs.Questioned.{answered_here, stopped_here}
use Rattle.levels.proofs.refreshing.kept_label_at.Goals as goal

pub returns-then-not-reads_alone-clause-asked : goal.returns-then-not-reads_alone-clause-asked
returns-then-not-reads_alone-clause-asked g c there = answered_here g.S.Samples g.met.S.Samples.keeps_itself c.args.samples.now _

pub returns-then-not-present-clause-asked : goal.returns-then-not-present-clause-asked
returns-then-not-present-clause-asked g c there =
    stopped_here g.S.Samples g.met.S.Samples.keeps_itself c.args.samples.now (λ honest.
    absurd (true≢false (sym (c.present.ensures.answer.1 (there honest)) ∙ c.if-not-present.true)))

pub returns-then-index-area-clause-asked : goal.returns-then-index-area-clause-asked
returns-then-index-area-clause-asked g c there = answered_here g.S.Samples g.met.S.Samples.keeps_itself c.args.samples.now _
