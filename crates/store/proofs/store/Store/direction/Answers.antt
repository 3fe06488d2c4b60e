use Rattle.engine.proofs.Questions.{direction_asked}
use Rattle.store.proofs.Reading.AskedTrees.{water_asked}
use Rattle.store.proofs.store.Store.direction.Goals as goal

pub returns-clause-call : goal.returns-clause-call
returns-clause-call g c = let is = c.ask_direction.ensures in water_asked g.D.Disk c.args.self.now _ (direction_asked c.args.point) c.ask_direction.result is.causes c.in_ok-check_working.ensures.works is.asked
