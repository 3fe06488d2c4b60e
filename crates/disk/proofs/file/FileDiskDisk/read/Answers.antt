use Rattle.std.proofs.Common.{◌∙◌, sym, subst, is_ok}
use Rattle.disk.specs.FileDisk.{calls_of}
use Rattle.disk.proofs.FileReplay.{AddsNone, reads}
use Rattle.disk.proofs.file.FileDiskDisk.read.Goals as goal

pub returns-clause-time : goal.returns-clause-time
returns-clause-time g c honest =
    let before = calls_of c.args.self.now in
    (subst (AddsNone g.W.World.image before) (sym (c.tally.ensures.calls ∙ c.read-answer.ensures)) (reads g.W.World.image c.args.s (is_ok c.read-answer.result) c.read-answer.new.into before)).time honest
