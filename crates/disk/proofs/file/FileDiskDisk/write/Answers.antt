use Rattle.std.proofs.Common.{is_ok, ◌∙◌}
use Rattle.disk.specs.FileDisk.{calls_of}
use Rattle.disk.proofs.FileReplay.{writing_others, writing_may, writing_time}
use Rattle.disk.proofs.file.FileDiskDisk.write.Goals as goal

pub returns-clause-others : goal.returns-clause-others
returns-clause-others g c =
    writing_others g.W.World.image c.args.s (is_ok c.write-answer.result) c.args.from.now (calls_of c.args.self.now) (calls_of c.tally.new.self) (c.tally.ensures.calls ∙ c.write-answer.ensures)

pub returns-clause-may : goal.returns-clause-may
returns-clause-may g c =
    writing_may g.W.World.image c.args.s (is_ok c.write-answer.result) c.args.from.now (calls_of c.args.self.now) (calls_of c.tally.new.self) (c.tally.ensures.calls ∙ c.write-answer.ensures)

pub returns-clause-time : goal.returns-clause-time
returns-clause-time g c =
    writing_time g.W.World.image c.args.s (is_ok c.write-answer.result) c.args.from.now (calls_of c.args.self.now) (calls_of c.tally.new.self) (c.tally.ensures.calls ∙ c.write-answer.ensures)
