use Rattle.catalogue.proofs.Prelude.{List, Step, ap, arith, count_by, is_adjacent, ◌∙◌}
use Rattle.std.proofs.lemmas.List.{take_all}
use Rattle.catalogue.proofs.Degrees.{degree-reach}
use Rattle.catalogue.proofs.adjacency.degree.Goals as goal

pub returns-clause-value : goal.returns-clause-value
returns-clause-value g c honest =
    let now = c.args.samples.now in
    let m = g.S.Samples.mosaic now in
    let valid = g.met.S.Samples.is_mosaic now (c.loop-step.invariant.reads.honest honest) in
    let items = c.as_slice-step-items.result.now in
    let whole = take_all c.loop-step.step-index items (omega arith) ∙ c.as_slice-step-items.ensures.value ∙ c.steps-reach.ensures in
    c.loop-step.invariant.count honest
    ∙ ap (λ (l : List Step). count_by (λ (s : Step). is_adjacent m c.args.point s.to) l) whole
    ∙ degree-reach m c.args.point valid
