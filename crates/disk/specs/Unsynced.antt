-- Which sectors of a file were written since its last good sync.
use Rattle.std.specs.Prelude.{ℕ, if◌then◌else◌, ◌==◌}
use Rattle.disk.specs.declared.unsynced.Unsynced.{Unsynced}
use Rattle.disk.specs.declared.unsynced.Unsynced.TheVariants.{Clean, Lone, Many}

-- the unsynced sectors after this sector is written, too
abbrev pub with_written : Unsynced → ℕ → Unsynced
with_written Clean s = Lone s
with_written (Lone only) s = if only == s then Lone only else Many
with_written Many s = Many
