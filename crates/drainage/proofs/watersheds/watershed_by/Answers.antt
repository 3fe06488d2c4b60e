use Rattle.drainage.proofs.Prelude.{AreRuns, IfOk, IfOk-weaker, IsInWatershed, OnLevels, rules, sym, terrain}
use Rattle.drainage.proofs.watersheds.watershed_by.Goals as goal

pub returns-clause-runs : goal.returns-clause-runs
returns-clause-runs g c =
    let m = g.S.Samples.mosaic c.args.samples.now in
    let follows = c.watershed_over.ensures.follows in
    let new = c.watershed_over.new.flows in
    let is : g.S.Samples.is_honest new.samples.now → IfOk c.watershed_over.result (λ runs. OnLevels m (λ level. AreRuns (IsInWatershed (terrain m) level c.args.point) runs.items)) =
    λ honest. IfOk-weaker c.watershed_over.result _ _ (λ runs told level filled. told m level (honest, (sym (follows.3 honest), filled))) c.watershed_over.ensures.runs in
    search rules
