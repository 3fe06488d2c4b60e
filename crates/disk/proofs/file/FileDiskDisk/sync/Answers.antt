use Rattle.std.proofs.Common.{is_ok}
use Rattle.disk.specs.FileDisk.{calls_in, calls_of}
use Rattle.disk.proofs.FileReplay.{sync_told_as, syncing, durable}
use Rattle.disk.proofs.file.FileDiskDisk.sync.Goals as goal

pub returns-clause-recorded : goal.returns-clause-recorded
returns-clause-recorded g c =
    sync_told_as (calls_of c.args.self.now) (calls_of c.tally.new.self) (calls_in c.sync-answer.new.self) (is_ok c.tally.result) (is_ok c.sync-answer.result)
    c.tally.ensures.calls c.sync-answer.ensures.told c.tally.ensures.same

pub returns-clause-honest : goal.returns-clause-honest
returns-clause-honest g c =
    (syncing g.W.World.image (is_ok c.tally.result) (calls_of c.args.self.now) (calls_of c.tally.new.self) (returns-clause-recorded g c)).honest

pub returns-clause-durable : goal.returns-clause-durable
returns-clause-durable g c honest =
    durable g.W.World.image c.tally.result (calls_of c.args.self.now) (calls_of c.tally.new.self) honest (returns-clause-recorded g c)

pub returns-clause-may : goal.returns-clause-may
returns-clause-may g c =
    (syncing g.W.World.image (is_ok c.tally.result) (calls_of c.args.self.now) (calls_of c.tally.new.self) (returns-clause-recorded g c)).may

pub returns-clause-time : goal.returns-clause-time
returns-clause-time g c =
    (syncing g.W.World.image (is_ok c.tally.result) (calls_of c.args.self.now) (calls_of c.tally.new.self) (returns-clause-recorded g c)).time
