use Rattle.drainage.proofs.Prelude.{IfOk, Mosaic, OnLevels, subst, terrain}
use Rattle.water.specs.FlowPath.{IsFlowPath}
use Rattle.catalogue.proofs.Questioned.{asked_then}
use Rattle.drainage.proofs.flow_direction.trace.Goals as goal

pub returns-clause-path : goal.returns-clause-path
returns-clause-path g c honest =
    let checked = c.in_ok-check_ground.ensures in
    let mid = c.path_from.ensures.asked.reads.honest honest in
    subst (λ (m : Mosaic). IfOk c.path_from.result (λ path. OnLevels m (λ level. IsFlowPath (terrain m) level c.args.point path.items))) (checked.asked.reads.mosaic mid) (c.path_from.ensures.path honest)

pub returns-clause-asked : goal.returns-clause-asked
returns-clause-asked g c =
    asked_then g.S.Samples g.met.S.Samples.keeps_on c.args.samples.now c.check_ground.new.samples c.path_from.new.samples tt c.path_from.result c.in_ok-check_ground.ensures.asked c.path_from.ensures.asked
