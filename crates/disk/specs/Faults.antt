-- Which calls of a disk fail: all after a number of calls, one alone, or none.
use Rattle.std.specs.Prelude.{ℕ, zero, suc, Option, Some, None, Bool, true, false}
use Rattle.disk.specs.Disk.{counted}
use Rattle.disk.specs.declared.faulty.CallKind.{CallKind}
use Rattle.disk.specs.declared.faulty.CallKind.TheVariants.{Read, Write, Sync}
use Rattle.disk.specs.declared.tally.Tally.{Tally}

-- A fuse for n calls lets n calls pass and fails each later one.
abbrev pub is_blown : ℕ → Bool
is_blown zero = true
is_blown (suc calls) = false

-- The next call fails if no call has to pass before it.
abbrev pub is_due : Option ℕ → Bool
is_due (Some zero) = true
is_due (Some (suc calls)) = false
is_due None = false

-- the calls that still have to pass, after one more call; none after the call that failed
abbrev pub one_call_on : Option ℕ → Option ℕ
one_call_on (Some zero) = None
one_call_on (Some (suc calls)) = Some calls
one_call_on None = None

-- the tally with one more write or sync
abbrev pub tallied : Tally → CallKind → Tally
tallied tally Read = tally
tallied tally Write = record tally { writes = counted tally.writes }
tallied tally Sync = record tally { syncs = counted tally.syncs }
