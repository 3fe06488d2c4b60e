use Rattle.lattice.specs.Terrain.{IsFilledLevel}
use Rattle.lattice.specs.Ground.{terrain}
use Rattle.drainage.proofs.Questions.Answered.{told}
use Rattle.engine.specs.declared.event.Event.TheVariants as ask
use Rattle.engine.proofs.Questions.{fill_asked}
use Rattle.table_engine.proofs.TableCalls.{called_same, old, stays, told_point}
use Rattle.table_engine.proofs.table_engine.TableEngineEngine.fill.Goals as goal

pub returns : goal.returns
returns c =
    let e = c.self.inside in
    let held = old e.table e.capacity e.fresh.items e.count e.number in
    let p = c.args.point in
    let valid = c.self.invariant.valid in
    let found = c.fill.ensures in
    let new_valid = found.asked.reads.never_refuses valid in
    called_same e.table e.capacity e.fresh.items e.count e.number c.args.self.now c.self.view_is (ask.Fill p) _ c.fill.new.samples found.asked.reads.keeps
    (told_point held p (fill_asked p) (λ r may. may) _ (λ x so. (stays held, so)) (λ r so. so) c.fill.result
    (told e.table valid p (IsFilledLevel (terrain e.table) p) c.fill.result (found.asked.own (found.asked.reads.answers valid)) (found.asked.sound new_valid valid) (found.level new_valid) found.outside (found.void new_valid) found.causes))
