use Rattle.std.proofs.Common.{rules, SFits, w16, sym, subst}
use Rattle.std.proofs.lemmas.Int.{to_z-of_z}
use Rattle.water.specs.TileLevels.{IsLevelOrVoid}
use Rattle.windows.proofs.Told.{fill_told, level_told}
use Rattle.windows.proofs.values.LevelPointValue.at.Goals as goal

pub returns-in-Ok : goal.returns-in-Ok
returns-in-Ok g c =
    let point = c.args.point in
    let call = g.met.E.Engine.is_call c.args.engine.now c.fill.new.self _ _ c.fill.ensures in
    let fits : SFits w16 c.in-Ok.level = search rules in
    level_told g.E.Engine c.args.engine.now c.fill.new.self point c.fill.result c.in-Ok.level _ c.in-Ok.is (sym (to_z-of_z w16 c.in-Ok.level fits)) (fill_told g.E.Engine c.args.engine.now c.fill.new.self point c.fill.result call)
