use Rattle.std.proofs.lemmas.Bool.{both_ways}
use Rattle.water.specs.Questions.{AreTileDirections}
use Rattle.engine.proofs.Questions.{directions_asked}
use Rattle.table_engine.proofs.TableCalls.{absent_told, tile_told}
use Rattle.table_engine.proofs.table_engine.TableEngineEngine.directions.Goals as goal

pub returns-then-not-present : goal.returns-then-not-present
returns-then-not-present c =
    let e = c.self.inside in
    absent_told e.table e.capacity e.fresh.items e.count e.number c.args.self.now c.self.view_is c.args.corner AreTileDirections (directions_asked c.args.corner) (λ r may. may) (λ has. both_ways c.present.result c.if-not-present.true (c.present.ensures.answer.1 has))

pub returns : goal.returns
returns c =
    let e = c.self.inside in
    let valid = c.self.invariant.valid in
    let found = c.directions.ensures in
    let new_valid = found.asked.reads.never_refuses valid in
    tile_told e.table e.capacity e.fresh.items e.count e.number c.args.self.now c.self.view_is c.args.corner AreTileDirections (directions_asked c.args.corner) (λ r may. may) (c.present.ensures.answer.0 c.if-not-present.false) c.directions.result
    (found.asked.own (found.asked.reads.answers valid)) (found.asked.sound new_valid valid) (found.directions new_valid) found.causes c.directions.new.samples found.asked.reads.keeps
