-- A file as a disk, where its reads give these images as time goes on.
use Rattle.std.specs.Prelude.{◌≡◌, ℕ, ◌∷◌}
use Rattle.disk.specs.Disk.{Image}
use Rattle.disk.specs.FileCalls.{read}
use Rattle.disk.specs.FileDisk.{calls_of, moment_of, sectors_of, failures_of, writes_of, IsHonestFor, seen_for, LeftFor, LeftSinceFor}
use Rattle.disk.specs.declared.disk.Disk.{Ghosts}
use Rattle.disk.specs.declared.file.FileDisk.{FileDisk}

-- The file is honest if each recorded answer is right for these images.
abbrev pub giving : {W : Type 0} → (ℕ → Image) → Ghosts (FileDisk W)
giving images = record {
  honest = λ disk. IsHonestFor images disk;
  size = λ disk. sectors_of disk;
  seen = λ disk. seen_for images disk;
  may = λ disk. LeftFor images disk;
  moment = λ disk. moment_of disk;
  since = λ disk. LeftSinceFor images disk;
  failures = λ disk. failures_of disk;
  writes = λ disk. writes_of disk;
  has_read = λ old s ok bytes new. calls_of new ≡ read s ok bytes ∷ calls_of old;
}
