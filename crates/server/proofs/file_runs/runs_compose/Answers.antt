use Rattle.std.proofs.Common.{ℕ}
use Rattle.disk.specs.Disk.{Image}
use Rattle.disk.specs.FileDisk.{calls_of}
use Rattle.disk.specs.FileMembers.{only_left}
use Rattle.disk.specs.FileWorlds.{giving}
use Rattle.server.proofs.FileRuns.{runs_compose}
use Rattle.server.proofs.file_runs.runs_compose.Goals as goal

pub returns-clause-any : goal.returns-clause-any
returns-clause-any g c = runs_compose (λ (one : Unit {0}). g.P.File.Disk) (λ one. g.met.P.File.Disk.only_now)

pub returns-clause-files : goal.returns-clause-files
returns-clause-files g c = runs_compose (λ (images : ℕ → Image). giving images) (λ images disk image honest. only_left images (calls_of disk) image)
