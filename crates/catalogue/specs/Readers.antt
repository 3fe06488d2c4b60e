-- How a call that reads a `Samples` changes it, and how it may be refused.
use Rattle.std.specs.Prelude.{◌≡◌, ◌≤◌, Result, Ok, Err, IsOk, IfErr, OnOk, OnErr}
use Rattle.lattice.specs.declared.refusal.Refusal.{Refusal}
use Rattle.lattice.specs.declared.refusal.Refusal.TheVariants.{Device, Failed, Damaged}
use Rattle.catalogue.specs.Reading.{MayRefuse}
use Rattle.catalogue.specs.declared.samples.Samples.{Ghosts}

-- the result of a call's reads, if the call may also be refused for other reasons
abbrev pub reads_of : {T : Type 0} → Result T Refusal → Result (Unit {0}) Refusal
reads_of (Err Device) = Err Device
reads_of (Err Failed) = Err Failed
reads_of (Err Damaged) = Err Damaged
reads_of _ = Ok tt

-- The call only read samples.
pub record OnlyReads {S T : Type 0} (g : Ghosts S) (old new : S) (result : Result T Refusal) : Type 0 where
  -- On any disk a refusal is Device, after which the count of failures has risen, or Failed or Damaged.
  pub refusal : IfErr result (MayRefuse (g.failures old) (g.failures new))
  -- If the samples were ready, the only refusal is Device.
  pub only_device : g.is_ready old → IfErr result (λ r. r ≡ Device)
  pub ready : g.is_ready old → OnOk result (g.is_ready new)
  -- After a refusal the samples aren't ready: no further read is tried.
  pub unready : OnErr result (¬ g.is_ready new)
  pub answers : g.never_refuses old → IsOk result
  pub never_refuses : g.never_refuses old → g.never_refuses new
  pub side : g.side_of new ≡ g.side_of old
  pub corners : g.corners new ≡ g.corners old
  pub sinks : g.sinks_of new ≡ g.sinks_of old
  pub failures : g.failures old ≤ g.failures new
  -- No call makes dishonest samples honest.
  pub honest : g.is_honest new → g.is_honest old
  pub mosaic : g.is_honest new → g.mosaic new ≡ g.mosaic old
  pub keeps : g.keeps old new
