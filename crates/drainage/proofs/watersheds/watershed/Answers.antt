use Rattle.drainage.proofs.Prelude.{AreRuns, IfOk, IsInWatershed, Mosaic, OnLevels, subst, terrain}
use Rattle.drainage.proofs.watersheds.watershed.Goals as goal

pub returns-clause-runs : goal.returns-clause-runs
returns-clause-runs g c honest =
    let checked = c.in_ok-check_ground.ensures in
    let mid = c.watershed_by.ensures.asked.reads.honest honest in
    subst (λ (m : Mosaic). IfOk c.watershed_by.result (λ runs. OnLevels m (λ level. AreRuns (IsInWatershed (terrain m) level c.args.point) runs.items))) (checked.asked.reads.mosaic mid) (c.watershed_by.ensures.runs honest)
