use Rattle.water.specs.Questions.{DrainsBy}
use Rattle.lattice.specs.Ground.{terrain}
use Rattle.drainage.proofs.Questions.Answered.{told_of_levels}
use Rattle.engine.specs.declared.event.Event.TheVariants as ask
use Rattle.engine.proofs.Questions.{direction_asked}
use Rattle.table_engine.proofs.TableCalls.{called_same, old, stays, told_point}
use Rattle.table_engine.proofs.table_engine.TableEngineEngine.direction.Goals as goal

pub returns : goal.returns
returns c =
    let e = c.self.inside in
    let held = old e.table e.capacity e.fresh.items e.count e.number in
    let p = c.args.point in
    let valid = c.self.invariant.valid in
    let found = c.direction.ensures in
    let new_valid = found.asked.reads.never_refuses valid in
    called_same e.table e.capacity e.fresh.items e.count e.number c.args.self.now c.self.view_is (ask.Direction p) _ c.direction.new.samples found.asked.reads.keeps
    (told_point held p (direction_asked p) (λ r may. may) _ (λ x so. (stays held, so)) (λ r so. so) c.direction.result
    (told_of_levels e.table valid p (λ code level. DrainsBy (terrain e.table) level p code) c.direction.result (found.asked.own (found.asked.reads.answers valid)) (found.asked.sound new_valid valid) (found.direction new_valid) (found.on_ground new_valid) found.outside (found.void new_valid) found.causes))
