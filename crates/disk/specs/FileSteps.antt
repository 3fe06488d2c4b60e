-- The calls on a file for each operation of a disk over it, as the record has them, newest first.
use Rattle.std.specs.Prelude.{◌≡◌, ◌⊎◌, ℕ, ◌≤◌, ◌<◌, List, [], ◌∷◌, length, Bool, true, false, if◌then◌else◌, nat_lt, min, ◌/◌, Option, Some, None, Result, Ok, Err, Vec}
use Rattle.disk.specs.FileCalls.{Answered, read, written, synced, forgotten, aside, Aside, makes, opens, opens_to_read, reads, closes, made, opened, locked, measured, folder_synced, note_read, resized, length_synced, noted, cleared}
use Rattle.disk.specs.Unsynced.{with_written}
use Rattle.disk.specs.declared.transcript.FileCall.{FileCall}
use Rattle.disk.specs.declared.transcript.FileCall.TheVariants as told
use Rattle.disk.specs.declared.files.Files.{Files}
use Rattle.disk.specs.declared.files.RecordedFile.{RecordedFile}
use Rattle.disk.specs.declared.unsynced.Unsynced.{Unsynced}
use Rattle.disk.specs.declared.unsynced.Unsynced.TheVariants.{Clean, Lone, Many}

abbrev pub answered : FileCall → Answered
answered (told.Makes path) = aside (makes path.now)
answered (told.Opens path) = aside (opens path.now)
answered (told.OpensToRead path) = aside (opens_to_read path.now)
answered (told.Reads path most bytes) = aside (reads path.now most (Some bytes.now))
answered (told.ReadsNothing path most) = aside (reads path.now most None)
answered (told.Closes calls) = aside (closes (length calls.now.calls))
answered told.Made = aside made
answered told.Opened = aside opened
answered (told.Locked ok) = aside (locked ok)
answered (told.Measured ok bytes) = aside (measured ok bytes)
answered (told.FolderSynced ok) = aside (folder_synced ok)
answered (told.NoteRead found) = aside (note_read found)
answered (told.Read s ok bytes) = read s ok bytes.now
answered (told.Written s ok bytes) = written s ok bytes.now
answered (told.Synced ok) = synced ok
answered (told.Forgotten ok) = forgotten ok
answered (told.Resized sectors ok) = aside (resized sectors ok)
answered (told.LengthSynced ok) = aside (length_synced ok)
answered (told.Noted s) = aside (noted s)
answered (told.Cleared ok) = aside (cleared ok)

-- the files asked for so far and the purpose of each, newest first
abbrev pub reached : Files → List Answered
reached files = files.transcript.calls

abbrev pub recorded : RecordedFile → List Answered
recorded file = file.transcript.calls

-- the call that reads a file's bytes
abbrev pub reading : {A E : Type 0} → (path : List ℕ) → (most : ℕ) → Result (Vec ℕ A) E → Aside
reading path most (Ok bytes) = reads path most (Some bytes.items)
reading path most (Err e) = reads path most None

-- the call that asks for the file's length
abbrev pub Measures : {E : Type 0} → Result ℕ E → List Answered → List Answered → Type 0
Measures (Ok bytes) old new = new ≡ aside (measured true bytes) ∷ old
Measures (Err e) old new = new ≡ aside (measured false 0) ∷ old

-- which sectors were written since the last successful sync
abbrev pub unsynced_of : List Answered → Unsynced
unsynced_of [] = Clean
unsynced_of (read s ok bytes ∷ earlier) = unsynced_of earlier
unsynced_of (written s ok bytes ∷ earlier) = with_written (unsynced_of earlier) s
unsynced_of (synced true ∷ earlier) = Clean
unsynced_of (synced false ∷ earlier) = unsynced_of earlier
unsynced_of (forgotten ok ∷ earlier) = unsynced_of earlier
unsynced_of (aside call ∷ earlier) = unsynced_of earlier

-- the call that makes the note, for the first sector that is written after a sync
abbrev pub noting : Unsynced → ℕ → List Answered → List Answered
noting Clean s calls = aside (noted s) ∷ calls
noting (Lone only) s calls = calls
noting Many s calls = calls

-- the calls of a write
abbrev pub writing : ℕ → Bool → List ℕ → List Answered → List Answered
writing s ok bytes calls = written s ok bytes ∷ noting (unsynced_of calls) s calls

-- A sector is read and, if that succeeds, written again with the same bytes.
abbrev pub WritesAgain : ℕ → List Answered → List Answered → Bool → Type 0
WritesAgain s old new ok = (bytes : List ℕ) × (((ok ≡ false) × (new ≡ read s false bytes ∷ old)) ⊎ (new ≡ written s ok bytes ∷ read s true bytes ∷ old))

-- If exactly one sector was written since the last successful sync, it is read and written again.
abbrev pub Mends : Unsynced → List Answered → List Answered → Type 0
Mends Clean old new = new ≡ old
Mends (Lone only) old new = (ok : Bool) × WritesAgain only old new ok
Mends Many old new = new ≡ old

-- A sync succeeds only if the note is removed, too. After a failure the note stays, the system is asked to drop its
-- cache of the file, and a sector that alone was written is written again.
abbrev pub Syncs : List Answered → List Answered → Bool → Type 0
Syncs old new true = new ≡ synced true ∷ aside (cleared true) ∷ old
Syncs old new false = (ok : Bool) × Mends (unsynced_of old) (forgotten ok ∷ synced false ∷ aside (cleared false) ∷ old) new

abbrev pub with_asides : List Aside → List Answered → List Answered
with_asides [] calls = calls
with_asides (call ∷ earlier) calls = aside call ∷ with_asides earlier calls

-- A file is cut to whole sectors, lengthened and synced, until a call fails.
abbrev pub Lengthens : (from to : ℕ) → List Answered → List Answered → Bool → Type 0
Lengthens from to old new true = new ≡ with_asides (length_synced true ∷ resized to true ∷ resized from true ∷ []) old
Lengthens from to old new false =
    (new ≡ with_asides (resized from false ∷ []) old)
    ⊎ (new ≡ with_asides (resized to false ∷ resized from true ∷ []) old)
    ⊎ (new ≡ with_asides (length_synced false ∷ resized to true ∷ resized from true ∷ []) old)

-- The file is lengthened if it is shorter than wanted.
abbrev pub HasLengthened : (has wanted : ℕ) → List Answered → List Answered → Bool → Type 0
HasLengthened has wanted old new ok = ((wanted ≤ has) × (new ≡ old)) ⊎ ((has < wanted) × Lengthens has wanted old new ok)

-- the first calls of the record of a file made with this length, whatever note an earlier file left
abbrev pub making : Option ℕ → ℕ → List Answered
making found sectors =
    aside (cleared true) ∷ synced true ∷ aside (resized sectors true) ∷ aside (note_read found) ∷ aside (folder_synced true) ∷ aside (locked true) ∷ aside made ∷ []

abbrev pub IsMaking : ℕ → List Answered → Type 0
IsMaking sectors calls = (found : Option ℕ) × (calls ≡ making found sectors)

-- The noted sector is read and written again, the file is synced, and the system is asked to drop its cache of the
-- file.
abbrev pub Heals : ℕ → List Answered → List Answered → Type 0
Heals s old new = (bytes : List ℕ) × (ok : Bool) × (new ≡ forgotten ok ∷ synced true ∷ written s true bytes ∷ read s true bytes ∷ old)

-- the noted sector, if the file is long enough to have it
abbrev pub noted_within : ℕ → Option ℕ → Option ℕ
noted_within sectors None = None
noted_within sectors (Some s) = if nat_lt s sectors then Some s else None

-- An existing file is locked, its length is asked for, and its note is read.
abbrev pub finding : (bytes : ℕ) → Option ℕ → List Answered
finding bytes found = aside (note_read found) ∷ aside (measured true bytes) ∷ aside (locked true) ∷ aside opened ∷ []

abbrev pub HealsFound : Option ℕ → List Answered → List Answered → Type 0
HealsFound None old new = new ≡ synced true ∷ old
HealsFound (Some s) old new = Heals s old new

-- the first calls of the record of an existing file of this many sectors. If its note names one of these, that sector
-- is written again and the note removed. Without a note nothing is written.
abbrev pub IsOpened : (sectors : ℕ) → List Answered → Type 0
IsOpened sectors calls =
    (bytes : ℕ) × (found : Option ℕ) × (healed : List Answered) × (sectors ≡ min (bytes / 4096) 4294967295)
    × HealsFound (noted_within sectors found) (finding bytes found) healed × (calls ≡ aside (cleared true) ∷ healed)
