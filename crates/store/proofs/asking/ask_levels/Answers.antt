use Rattle.store.proofs.Prelude.{Refusal, Result, Vec, ℤ, rules}
use Rattle.water.specs.TileLevels.{AreTileLevels}
use Rattle.store.proofs.Reading.AskedTrees.{tile_asked_of}
use Rattle.store.proofs.asking.ask_levels.Goals as goal

pub returns-clause-asked : goal.returns-clause-asked
returns-clause-asked g c =
    let ensures = c.levels.ensures in
    let result : Result (Vec ℤ) Refusal = c.levels.result in
    let is = tile_asked_of g.D.Disk c.args.tree.now c.levels.new.samples.tree.now c.requires.works _ _ c.levels.new.samples result ensures.asked
    (record { ready = c.requires.works; works = (λ is. is, λ is. is); risen = λ is. is; keeps = ensures.asked.reads.keeps.1 })
    c.args.corner c.requires.present AreTileLevels ensures.levels ensures.causes c.args.held.now c.levels.new.held ensures.held g.P.Premise.holds (λ holds sure. (sure, holds)) in
    search rules
