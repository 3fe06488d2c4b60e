-- Whether a file is in doubt: a sync of it has failed, and the system hasn't dropped its cache of the file since.
use Rattle.std.specs.Prelude.{ℕ, List, [], ◌∷◌, Bool, true, false, not, if◌then◌else◌, Option}
use Rattle.disk.specs.FileCalls.{Answered, read, written, synced, forgotten, aside, Aside, makes, opens, opens_to_read, reads, closes, made, opened, locked, measured, folder_synced, note_read, resized, length_synced, noted, cleared}

abbrev pub aside_after : Aside → Bool → Bool
aside_after (makes path) b = b
aside_after (opens path) b = b
aside_after (opens_to_read path) b = b
aside_after (reads path most given) b = b
aside_after (closes k) b = b
aside_after made b = b
aside_after opened b = b
aside_after (locked ok) b = b
aside_after (measured ok bytes) b = b
aside_after (folder_synced ok) b = b
aside_after (note_read found) b = b
aside_after (resized sectors ok) b = b
aside_after (length_synced ok) b = if ok then b else true
aside_after (noted s) b = b
aside_after (cleared ok) b = b

-- whether the file is in doubt after this call, from whether it was before
abbrev pub doubt_after : Answered → Bool → Bool
doubt_after (read s ok bytes) b = b
doubt_after (written s ok bytes) b = b
doubt_after (synced ok) b = not ok
doubt_after (forgotten ok) b = if ok then false else b
doubt_after (aside call) b = aside_after call b

abbrev pub doubted_of : List Answered → Bool
doubted_of [] = false
doubted_of (call ∷ earlier) = doubt_after call (doubted_of earlier)
