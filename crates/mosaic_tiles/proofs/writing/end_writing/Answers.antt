use Rattle.std.proofs.Common.{ℕ, List, subst}
use Rattle.server.specs.Program.{TellsFault}
use Rattle.server.specs.declared.places.MakeFault.TheVariants.{Closed}
use Rattle.mosaic_tiles.proofs.writing.end_writing.Goals as goal

pub returns-in-Err-Path : goal.returns-in-Err-Path
returns-in-Err-Path g c =
    let told = subst (λ (path : List ℕ). TellsFault path Closed (g.O.Output.stream c.args.writer.now) (g.O.Output.stream c.tell_fault.new.writer) c.tell_fault.result)
    c.as_str.ensures.value c.tell_fault.ensures in
    rw (c.in-Err-Path.is, c.in-Err-Path.field-0-is) told

pub returns-in-Err-Output : goal.returns-in-Err-Output
returns-in-Err-Output g c = rw (c.in-Err-Output.is, c.in-Err-Output.field-0-is) (c.end_fault.ensures.line, c.end_fault.ensures.status)
