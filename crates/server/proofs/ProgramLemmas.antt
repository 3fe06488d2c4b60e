-- How the program ends.
use Rattle.std.proofs.Common.{◌≡◌, ℕ, List, Result, Err, refl, subst}
use Rattle.serving.specs.Outputs.{HasFailed, Puts, Stream}
use Rattle.serving.specs.declared.session.ServeFault.{ServeFault}
use Rattle.serving.specs.declared.session.ServeFault.TheVariants.{Input, Output}
use Rattle.server.specs.Endings.{EndsSession, fault_line}

abbrev failure : ServeFault → Result (Unit {0}) ServeFault
failure fault = Err fault

-- A stream has failed, and a line that names it was put.
pub ends_failed : (fault : ServeFault) (old new : Stream) (status : ℕ) → status ≡ 1 → Puts old new (fault_line fault)
    → (failure fault ≡ failure Output → HasFailed old) → EndsSession (Err fault) old new status
ends_failed Input old new status is puts caused = (puts, is)
ends_failed Output old new status is puts caused = (caused refl, puts, is)
