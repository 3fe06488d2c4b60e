use Rattle.store.proofs.Prelude.{IsAnswered, Point, Refusal, Result, Vec, items_in, mosaic_of, rules, terrain}
use Rattle.water.specs.FlowPath.{IsFlowPath}
use Rattle.engine.specs.Outcomes.{Traces}
use Rattle.engine.proofs.Answered.{traces}
use Rattle.store.proofs.Reading.AskedTrees.{listed, of_levels, asked_of}
use Rattle.store.proofs.asking.ask_trace.Goals as goal

pub returns-clause-asked : goal.returns-clause-asked
returns-clause-asked g c =
    let p = c.args.point in
    let old = c.args.tree.now in
    let ensures = c.trace.ensures in
    let result : Result (Vec Point) Refusal = c.trace.result in
    let is = asked_of g.D.Disk old c.trace.new.samples.tree.now c.requires.works _ _ c.trace.new.samples result ensures.asked
    (record { ready = c.requires.works; works = (λ is. is, λ is. is); risen = λ is. is; keeps = ensures.asked.reads.keeps.1 })
    p (λ m path. IsAnswered m p (λ level. IsFlowPath (terrain m) level p path.items)) (λ honest. of_levels _ p (λ path level. IsFlowPath (terrain (mosaic_of g.D.Disk old)) level p path.items) result (ensures.path honest) (ensures.on_ground honest)) ensures.outside ensures.void ensures.causes
    c.args.held.now c.trace.new.held ensures.held (λ s r t. Traces s p (items_in r) t) (λ s t fails. fails) (λ s stays is. listed (λ r. Traces s p r s) result (traces s s stays p result is)) g.P.Premise.holds (λ holds sure. (sure, holds)) in
    search rules
