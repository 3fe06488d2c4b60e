-- What contracts see of a disk over a file.
use Rattle.std.specs.Prelude.{ℕ, List, length}
use Rattle.disk.specs.Disk.{Image}
use Rattle.disk.specs.Memory.{MayLeave}
use Rattle.disk.specs.FileCalls.{Answered, state_after, IsHonest, LeftSince}
use Rattle.disk.specs.FileSteps.{recorded}
use Rattle.disk.specs.declared.sector_file.SectorFile.{SectorFile}
use Rattle.disk.specs.declared.file.FileDisk.{FileDisk}

abbrev pub calls_in : SectorFile → List Answered
calls_in file = recorded file.calls

abbrev pub opening_in : SectorFile → List Answered
opening_in file = file.opening.calls

module _ {W : Type 0} where
  -- each call so far with its answer, newest first
  abbrev pub calls_of : FileDisk W → List Answered
  calls_of disk = calls_in disk.file

  -- the calls that made or opened the file, before all others
  abbrev pub opening_of : FileDisk W → List Answered
  opening_of disk = opening_in disk.file

  abbrev pub moment_of : FileDisk W → ℕ
  moment_of disk = length (calls_of disk)

  abbrev pub sectors_of : FileDisk W → ℕ
  sectors_of disk = disk.count

  abbrev pub failures_of : FileDisk W → ℕ
  failures_of disk = disk.failures

  abbrev pub writes_of : FileDisk W → ℕ
  writes_of disk = disk.writes

  -- Each answer so far is right if reads give these images.
  abbrev pub IsHonestFor : (ℕ → Image) → FileDisk W → Type 0
  IsHonestFor images disk = IsHonest images (calls_of disk)

  abbrev pub seen_for : (ℕ → Image) → FileDisk W → Image
  seen_for images disk = (state_after images (calls_of disk)).seen

  abbrev pub LeftFor : (ℕ → Image) → FileDisk W → Image → Type 0
  LeftFor images disk = MayLeave (state_after images (calls_of disk))

  abbrev pub LeftSinceFor : (ℕ → Image) → FileDisk W → ℕ → Image → Type 0
  LeftSinceFor images disk = LeftSince images (calls_of disk)
