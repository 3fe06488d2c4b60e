use Rattle.drainage.proofs.Prelude.{IsFlow, Mosaic, OnLevels, ap, direction_of, flow_direction, subst, terrain, ◌∙◌}
use Rattle.water.specs.Questions.{code_by}
use Rattle.catalogue.proofs.Questioned.{asked_reads, refused_after}
use Rattle.drainage.proofs.flow_direction.direction.Goals as goal

pub returns-in_err-flow-clause-asked : goal.returns-in_err-flow-clause-asked
returns-in_err-flow-clause-asked g c =
    let a = c.args.samples.now in
    let b = c.check_ground.new.samples in
    refused_after g.S.Samples g.met.S.Samples.keeps_on a b c.flow_at.new.samples c.from_residual-in_err-flow.result c.in_err-flow.field-0.0 c.from_residual-in_err-flow.ensures.1 (asked_reads g.S.Samples a b _ c.in_ok-check_ground.ensures.asked) c.in_err-flow.ensures.asked

pub returns-clause-direction : goal.returns-clause-direction
returns-clause-direction g c honest level filled =
    let checked = c.in_ok-check_ground.ensures in
    let flow = c.in_ok-flow.flow in
    let e = c.in_ok-flow.ensures in
    let mid = e.asked.reads.honest honest in
    let told = subst (λ (m : Mosaic). OnLevels m (λ level. IsFlow (terrain m) level c.args.point flow)) (checked.asked.reads.mosaic mid) (e.flow honest) in
    let m = g.S.Samples.mosaic c.args.samples.now in
    (direction_of flow, (flow_direction (terrain m) level c.args.point flow (told level filled) e.drains, c.code.ensures ∙ ap code_by c.direction.ensures))
