use Rattle.windows.proofs.Told.{direction_told}
use Rattle.windows.proofs.points.DirectionQuestion.ask.Goals as goal

pub returns : goal.returns
returns g c =
    let call = g.met.E.Engine.is_call c.args.engine.now c.direction.new.self _ _ c.direction.ensures in
    direction_told g.E.Engine c.args.engine.now c.direction.new.self c.args.self.now.0 c.direction.result call
