-- What contracts see of a disk in memory.
use Rattle.std.specs.Prelude.{ℕ, List, length}
use Rattle.disk.specs.Disk.{Image}
use Rattle.disk.specs.Memory.{State, replay, at_first, LeftSince}
use Rattle.disk.specs.declared.memory.Call.{Call}
use Rattle.disk.specs.declared.memory.MemDisk.{MemDisk}

-- the recorded writes, syncs and stops, oldest first
abbrev pub calls_of : MemDisk → List Call
calls_of disk = disk.calls.items

-- the disk's state after these calls
abbrev pub state_of : MemDisk → State
state_of disk = replay at_first (calls_of disk)

abbrev pub moment_of : MemDisk → ℕ
moment_of disk = length (calls_of disk)

abbrev pub since_of : MemDisk → ℕ → Image → Type 0
since_of disk = LeftSince (calls_of disk)

abbrev pub sectors_of : MemDisk → ℕ
sectors_of disk = disk.count

abbrev pub failures_of : MemDisk → ℕ
failures_of disk = disk.failures

abbrev pub writes_of : MemDisk → ℕ
writes_of disk = disk.writes
