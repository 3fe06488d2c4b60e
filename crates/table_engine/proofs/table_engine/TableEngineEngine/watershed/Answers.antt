use Rattle.water.specs.FlowPath.{IsInWatershed}
use Rattle.water.specs.Runs.{AreRuns}
use Rattle.lattice.specs.Ground.{terrain}
use Rattle.drainage.proofs.Questions.Answered.{told_of_levels}
use Rattle.engine.specs.declared.event.Event.TheVariants as ask
use Rattle.engine.proofs.Questions.{watershed_asked}
use Rattle.table_engine.proofs.TableCalls.{called_same, old, stays, told_point}
use Rattle.table_engine.proofs.table_engine.TableEngineEngine.watershed.Goals as goal

pub returns : goal.returns
returns c =
    let e = c.self.inside in
    let held = old e.table e.capacity e.fresh.items e.count e.number in
    let p = c.args.point in
    let valid = c.self.invariant.valid in
    let found = c.watershed.ensures in
    let new_valid = found.asked.reads.never_refuses valid in
    called_same e.table e.capacity e.fresh.items e.count e.number c.args.self.now c.self.view_is (ask.Watershed p) _ c.watershed.new.samples found.asked.reads.keeps
    (told_point held p (watershed_asked p) (λ r may. may) _ (λ x so. (stays held, so)) (λ r so. so) c.watershed.result
    (told_of_levels e.table valid p (λ runs level. AreRuns (IsInWatershed (terrain e.table) level p) runs.items) c.watershed.result (found.asked.own (found.asked.reads.answers valid)) (found.asked.sound new_valid valid) (found.runs new_valid) (found.on_ground new_valid) found.outside (found.void new_valid) found.causes))
