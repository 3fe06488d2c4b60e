use Rattle.std.proofs.Common.{is_ok}
use Rattle.disk.specs.FileDisk.{sectors_of}
use Rattle.server.proofs.Longer.{has_grown, has_not_grown}
use Rattle.server.proofs.files.FileDiskLengthen.lengthen.Goals as goal

pub returns-clause-grown : goal.returns-clause-grown
returns-clause-grown g c =
    has_grown g.V.World.image c.args.self.now c.lengthen.new.self (sectors_of c.args.self.now) c.args.sectors (is_ok c.lengthen.result) c.lengthen.ensures.calls c.lengthen.ensures.writes
    c.args.sectors c.lengthen.result c.lengthen.ensures.sectors c.lengthen.ensures.failures

pub returns-clause-as_before : goal.returns-clause-as_before
returns-clause-as_before g c =
    has_not_grown g.V.World.image c.args.self.now c.lengthen.new.self (sectors_of c.args.self.now) c.args.sectors (is_ok c.lengthen.result) c.lengthen.ensures.calls c.lengthen.ensures.writes
    c.lengthen.result c.lengthen.ensures.as_before c.lengthen.ensures.failures
