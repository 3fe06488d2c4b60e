use Rattle.store.proofs.Prelude.{Refusal, Result, ℕ, mosaic_of, rules, terrain}
use Rattle.water.specs.Questions.{DrainsBy, IsAnswered}
use Rattle.engine.specs.Outcomes.{Directs}
use Rattle.engine.proofs.Answered.{directs}
use Rattle.store.proofs.Reading.AskedTrees.{of_levels, asked_of}
use Rattle.store.proofs.asking.ask_direction.Goals as goal

pub returns-clause-asked : goal.returns-clause-asked
returns-clause-asked g c =
    let p = c.args.point in
    let old = c.args.tree.now in
    let ensures = c.direction.ensures in
    let result : Result ℕ Refusal = c.direction.result in
    let is = asked_of g.D.Disk old c.direction.new.samples.tree.now c.requires.works _ _ c.direction.new.samples result ensures.asked
    (record { ready = c.requires.works; works = (λ is. is, λ is. is); risen = λ is. is; keeps = ensures.asked.reads.keeps.1 })
    p (λ m code. IsAnswered m p (λ level. DrainsBy (terrain m) level p code)) (λ honest. of_levels _ p (λ code level. DrainsBy (terrain (mosaic_of g.D.Disk old)) level p code) result (ensures.direction honest) (ensures.on_ground honest)) ensures.outside ensures.void ensures.causes
    c.args.held.now c.direction.new.held ensures.held (λ s r t. Directs s p r t) (λ s t fails. fails) (λ s stays is. directs s s stays p result is) g.P.Premise.holds (λ holds sure. (sure, holds)) in
    search rules
