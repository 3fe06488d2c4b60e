use Rattle.water.specs.FlowPath.{IsFlowPath}
use Rattle.lattice.specs.Ground.{terrain}
use Rattle.drainage.proofs.Questions.Answered.{told_of_levels}
use Rattle.engine.specs.declared.event.Event.TheVariants as ask
use Rattle.engine.proofs.Questions.{trace_asked}
use Rattle.table_engine.proofs.TableCalls.{called_same, old, stays, told_point}
use Rattle.table_engine.proofs.table_engine.TableEngineEngine.trace.Goals as goal

pub returns : goal.returns
returns c =
    let e = c.self.inside in
    let held = old e.table e.capacity e.fresh.items e.count e.number in
    let p = c.args.point in
    let valid = c.self.invariant.valid in
    let found = c.trace.ensures in
    let new_valid = found.asked.reads.never_refuses valid in
    called_same e.table e.capacity e.fresh.items e.count e.number c.args.self.now c.self.view_is (ask.Trace p) _ c.trace.new.samples found.asked.reads.keeps
    (told_point held p (trace_asked p) (λ r may. may) _ (λ x so. (stays held, so)) (λ r so. so) c.trace.result
    (told_of_levels e.table valid p (λ path level. IsFlowPath (terrain e.table) level p path.items) c.trace.result (found.asked.own (found.asked.reads.answers valid)) (found.asked.sound new_valid valid) (found.path new_valid) (found.on_ground new_valid) found.outside (found.void new_valid) found.causes))
