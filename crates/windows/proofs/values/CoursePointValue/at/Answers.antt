use Rattle.std.proofs.Common.{subst}
use Rattle.windows.specs.Results.{OfPoint}
use Rattle.windows.proofs.Told.{IsCode, direction_told, code_told}
use Rattle.windows.proofs.values.CoursePointValue.at.Goals as goal

pub returns-in-Ok : goal.returns-in-Ok
returns-in-Ok g c =
    let call = g.met.E.Engine.is_call c.args.engine.now c.direction.new.self _ _ c.direction.ensures in
    code_told g.E.Engine c.args.engine.now c.direction.new.self c.args.point c.direction.result c.in-Ok.code c.in-Ok.is (direction_told g.E.Engine c.args.engine.now c.direction.new.self c.args.point c.direction.result call)
