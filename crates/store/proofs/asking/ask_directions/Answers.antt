use Rattle.store.proofs.Prelude.{Refusal, Result, Vec, ℕ, rules}
use Rattle.water.specs.Questions.{AreTileDirections}
use Rattle.store.proofs.Reading.AskedTrees.{tile_asked_of}
use Rattle.store.proofs.asking.ask_directions.Goals as goal

pub returns-clause-asked : goal.returns-clause-asked
returns-clause-asked g c =
    let ensures = c.directions.ensures in
    let result : Result (Vec ℕ) Refusal = c.directions.result in
    let is = tile_asked_of g.D.Disk c.args.tree.now c.directions.new.samples.tree.now c.requires.works _ _ c.directions.new.samples result ensures.asked
    (record { ready = c.requires.works; works = (λ is. is, λ is. is); risen = λ is. is; keeps = ensures.asked.reads.keeps.1 })
    c.args.corner c.requires.present AreTileDirections ensures.directions ensures.causes c.args.held.now c.directions.new.held ensures.held g.P.Premise.holds (λ holds sure. (sure, holds)) in
    search rules
