use Rattle.std.proofs.lemmas.Bool.{both_ways}
use Rattle.water.specs.TileLevels.{AreTileLevels}
use Rattle.engine.proofs.Questions.{levels_asked}
use Rattle.table_engine.proofs.TableCalls.{absent_told, tile_told}
use Rattle.table_engine.proofs.table_engine.TableEngineEngine.levels.Goals as goal

pub returns-then-not-present : goal.returns-then-not-present
returns-then-not-present c =
    let e = c.self.inside in
    absent_told e.table e.capacity e.fresh.items e.count e.number c.args.self.now c.self.view_is c.args.corner AreTileLevels (levels_asked c.args.corner) (λ r may. may) (λ has. both_ways c.present.result c.if-not-present.true (c.present.ensures.answer.1 has))

pub returns : goal.returns
returns c =
    let e = c.self.inside in
    let valid = c.self.invariant.valid in
    let found = c.levels.ensures in
    let new_valid = found.asked.reads.never_refuses valid in
    tile_told e.table e.capacity e.fresh.items e.count e.number c.args.self.now c.self.view_is c.args.corner AreTileLevels (levels_asked c.args.corner) (λ r may. may) (c.present.ensures.answer.0 c.if-not-present.false) c.levels.result
    (found.asked.own (found.asked.reads.answers valid)) (found.asked.sound new_valid valid) (found.levels new_valid) found.causes c.levels.new.samples found.asked.reads.keeps
