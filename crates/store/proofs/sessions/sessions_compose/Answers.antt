use Rattle.store.proofs.Prelude.{Image, ℕ}
use Rattle.disk.specs.FileDisk.{calls_of}
use Rattle.disk.specs.FileMembers.{only_left}
use Rattle.disk.specs.FileWorlds.{giving}
use Rattle.store.proofs.Calls.SessionsInTurn.{sessions_compose}
use Rattle.store.proofs.sessions.sessions_compose.Goals as goal

pub returns-clause-any : goal.returns-clause-any
returns-clause-any g c = sessions_compose (λ (one : Unit {0}). g.D.Disk) (λ one. g.met.D.Disk.only_now)

pub returns-clause-file : goal.returns-clause-file
returns-clause-file g c = sessions_compose (λ (images : ℕ → Image). giving images) (λ images disk image honest. only_left images (calls_of disk) image)
