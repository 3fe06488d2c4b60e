-- The parts of a disk that fails some of its calls.
use Rattle.std.specs.Prelude.{ℕ, ◌+◌}
use Rattle.disk.specs.Disk.{saturated}
use Rattle.disk.specs.declared.disk.Disk.{Ghosts}
use Rattle.disk.specs.declared.faulty.FaultyDisk.{FaultyDisk}

module _ {D F : Type 0} where
  -- the wrapped disk
  abbrev pub inner_of : FaultyDisk D F → D
  inner_of disk = disk.inner

  -- which later calls fail
  abbrev pub faults_of : FaultyDisk D F → F
  faults_of disk = disk.faults

  -- the failures of the wrapped disk and of the wrapper
  abbrev pub all_failures : Ghosts D → FaultyDisk D F → ℕ
  all_failures g disk = saturated (g.failures disk.inner + disk.refused)

  -- the writes asked of the wrapped disk and of the wrapper
  abbrev pub all_writes : Ghosts D → FaultyDisk D F → ℕ
  all_writes g disk = saturated (g.writes disk.inner + disk.refused_writes)
