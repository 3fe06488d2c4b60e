-- Which files the system opens, as accesses of the program (defined by this product).
use Rattle.std.specs.Prelude.{◌≡◌, [], ◌∷◌, Option, Some, None, Ok, Err}
use Rattle.disk.specs.FileCalls.{Aside, aside, makes, opens, closes, reads}
use Rattle.disk.specs.FileDisk.{calls_of, opening_of, moment_of, sectors_of, failures_of, writes_of}
use Rattle.disk.specs.FileSteps.{reached, IsMaking, IsOpened}
use Rattle.disk.specs.declared.file.FileDisk.{FileDisk}
use Rattle.disk.specs.declared.files.Files.{Files}
use Rattle.server.specs.Places.{Access, Makes, Opens, Closes, Reads}

-- A file was opened as a disk, and no call was made on it yet.
pub record IsUntouched {V : Type 0} (disk : FileDisk V) : Type 0 where
  pub calls : calls_of disk ≡ []
  pub failures : failures_of disk ≡ 0
  pub writes : writes_of disk ≡ 0

-- A disk that an access gives is untouched: a new file with this length, or an existing file.
abbrev pub GivesUntouched : {V : Type 0} → Access (FileDisk V) → Type 0
GivesUntouched (Makes path sectors (Ok disk)) = IsUntouched disk × IsMaking sectors (opening_of disk)
GivesUntouched (Makes path sectors (Err fault)) = Unit {0}
GivesUntouched (Opens path (Some disk)) = IsUntouched disk × IsOpened (sectors_of disk) (opening_of disk)
GivesUntouched (Opens path None) = Unit {0}
GivesUntouched (Closes disk) = Unit {0}
GivesUntouched (Reads path most given) = Unit {0}

-- the one call on the system's files for an access
abbrev pub reaching : {V : Type 0} → Access (FileDisk V) → Aside
reaching (Makes path sectors given) = makes path
reaching (Opens path given) = opens path
reaching (Closes disk) = closes (moment_of disk)
reaching (Reads path most (Ok bytes)) = reads path most (Some bytes)
reaching (Reads path most (Err fault)) = reads path most None

-- An access is that one call: a file that it gives was asked for once.
pub record IsReached {V : Type 0} (old : Files) (access : Access (FileDisk V)) (new : Files) : Type 0 where
  pub gives : GivesUntouched access
  pub reaches : reached new ≡ aside (reaching access) ∷ reached old
