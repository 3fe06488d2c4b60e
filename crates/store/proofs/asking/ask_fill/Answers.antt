use Rattle.store.proofs.Prelude.{Refusal, Result, ℤ, rules, terrain}
use Rattle.lattice.specs.Terrain.{IsFilledLevel}
use Rattle.engine.specs.Outcomes.{Fills}
use Rattle.engine.proofs.Answered.{fills}
use Rattle.store.proofs.Reading.AskedTrees.{asked_of}
use Rattle.store.proofs.asking.ask_fill.Goals as goal

pub returns-clause-asked : goal.returns-clause-asked
returns-clause-asked g c =
    let p = c.args.point in
    let old = c.args.tree.now in
    let ensures = c.fill.ensures in
    let result : Result ℤ Refusal = c.fill.result in
    let is = asked_of g.D.Disk old c.fill.new.samples.tree.now c.requires.works _ _ c.fill.new.samples result ensures.asked
    (record { ready = c.requires.works; works = (λ is. is, λ is. is); risen = λ is. is; keeps = ensures.asked.reads.keeps.1 })
    p (λ m level. IsFilledLevel (terrain m) p level) ensures.level ensures.outside ensures.void ensures.causes
    c.args.held.now c.fill.new.held ensures.held (λ s r t. Fills s p r t) (λ s t fails. fails) (λ s stays is. fills s s stays p result is) g.P.Premise.holds (λ holds sure. (sure, holds)) in
    search rules
