use Rattle.engine.proofs.Questions.{trace_asked}
use Rattle.store.proofs.Reading.AskedTrees.{water_asked}
use Rattle.store.proofs.store.Store.trace.Goals as goal

pub returns-clause-call : goal.returns-clause-call
returns-clause-call g c = let is = c.ask_trace.ensures in water_asked g.D.Disk c.args.self.now _ (trace_asked c.args.point) c.ask_trace.result is.causes c.in_ok-check_working.ensures.works is.asked
