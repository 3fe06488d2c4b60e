-- What contracts see of a file that is read beside its writer.
use Rattle.std.specs.Prelude.{◌≡◌, ℕ, List, [], ◌∷◌, true}
use Rattle.disk.specs.Disk.{Image}
use Rattle.disk.specs.FileCalls.{Answered, read, written, synced, forgotten, aside}
use Rattle.disk.specs.FileSteps.{recorded}
use Rattle.disk.specs.declared.snapshot.SnapshotFile.{SnapshotFile}

-- each read so far with its answer, the newest first
abbrev pub reads_of : {W : Type 0} → SnapshotFile W → List Answered
reads_of disk = recorded disk.file

-- each read that succeeded gave what this image has there
abbrev pub AgreeWith : Image → List Answered → Type 0
AgreeWith image [] = Unit {0}
AgreeWith image (read s ok bytes ∷ earlier) = (ok ≡ true → bytes ≡ image s) × AgreeWith image earlier
AgreeWith image (written s ok bytes ∷ earlier) = AgreeWith image earlier
AgreeWith image (synced ok ∷ earlier) = AgreeWith image earlier
AgreeWith image (forgotten ok ∷ earlier) = AgreeWith image earlier
AgreeWith image (aside call ∷ earlier) = AgreeWith image earlier
