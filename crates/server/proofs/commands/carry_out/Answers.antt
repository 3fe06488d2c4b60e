use Rattle.std.proofs.Common.{rules, map, [], inl, inr, refl}
use Rattle.server.specs.CommandLine.{AskNothing}
use Rattle.server.proofs.commands.carry_out.Goals as goal

pub returns-in-Ok : goal.returns-in-Ok
returns-in-Ok g c = let did = c.run.ensures in (did.0, did.1, (did.2.0, inr (inr (c.in-Ok.arguments, c.in-Ok.ensures.ok, did.2.1))))

pub returns-in-Err-Bad : goal.returns-in-Err-Bad
returns-in-Err-Bad g c =
    let nothing : AskNothing (map g.S.AsStr.text c.args.words.now) = search rules in
    ([], refl, ([], inl (refl, refl, refl, refl, nothing, c.end_with.ensures.line, c.end_with.ensures.status)))

pub returns-in-Err-NoMemory : goal.returns-in-Err-NoMemory
returns-in-Err-NoMemory g c = ([], refl, ([], inr (inl (refl, refl, refl, refl, c.no_room.ensures))))
