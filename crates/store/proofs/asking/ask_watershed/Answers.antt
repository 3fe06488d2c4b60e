use Rattle.store.proofs.Prelude.{IsAnswered, Refusal, Result, Vec, items_in, mosaic_of, rules, terrain}
use Rattle.water.specs.FlowPath.{IsInWatershed}
use Rattle.water.specs.Runs.{AreRuns}
use Rattle.water.specs.declared.run.Run.{Run}
use Rattle.engine.specs.Outcomes.{Sheds}
use Rattle.engine.proofs.Answered.{sheds}
use Rattle.store.proofs.Reading.AskedTrees.{listed, of_levels, asked_of}
use Rattle.store.proofs.asking.ask_watershed.Goals as goal

pub returns-clause-asked : goal.returns-clause-asked
returns-clause-asked g c =
    let p = c.args.point in
    let old = c.args.tree.now in
    let ensures = c.watershed.ensures in
    let result : Result (Vec Run) Refusal = c.watershed.result in
    let is = asked_of g.D.Disk old c.watershed.new.samples.tree.now c.requires.works _ _ c.watershed.new.samples result ensures.asked
    (record { ready = c.requires.works; works = (λ is. is, λ is. is); risen = λ is. is; keeps = ensures.asked.reads.keeps.1 })
    p (λ m runs. IsAnswered m p (λ level. AreRuns (IsInWatershed (terrain m) level p) runs.items)) (λ honest. of_levels _ p (λ runs level. AreRuns (IsInWatershed (terrain (mosaic_of g.D.Disk old)) level p) runs.items) result (ensures.runs honest) (ensures.on_ground honest)) ensures.outside ensures.void ensures.causes
    c.args.held.now c.watershed.new.held ensures.held (λ s r t. Sheds s p (items_in r) t) (λ s t fails. fails) (λ s stays is. listed (λ r. Sheds s p r s) result (sheds s s stays p result is)) g.P.Premise.holds (λ holds sure. (sure, holds)) in
    search rules
