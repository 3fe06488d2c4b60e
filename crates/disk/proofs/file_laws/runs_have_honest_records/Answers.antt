use Rattle.disk.proofs.FileRuns.{record_of}
use Rattle.disk.proofs.file_laws.runs_have_honest_records.Goals as goal

pub returns : goal.returns
returns c = record_of
