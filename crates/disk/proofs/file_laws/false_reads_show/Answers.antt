use Rattle.disk.proofs.FileRuns.{false_read}
use Rattle.disk.proofs.file_laws.false_reads_show.Goals as goal

pub returns : goal.returns
returns c = false_read
