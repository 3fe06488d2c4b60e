-- How the sectors of a disk in memory follow from its record of calls.
use Rattle.std.specs.Prelude.{◌≡◌, ℕ, ◌<◌, ◌≤◌, nat_lt, List, [], ◌∷◌, length, slice_get, Option, Some, None, Bool, true, false, if◌then◌else◌}
use Rattle.std.proofs.Common.{refl, sym, subst, arith, get_or}
use Rattle.std.proofs.lemmas.Bool.Decides.{nat_tests}
use Rattle.std.proofs.lemmas.List.{take_all}
use Rattle.disk.specs.Disk.{Image}
use Rattle.disk.specs.Memory.{State, filled, happens, replay, at_first, MayLeave, LeftSince}
use Rattle.disk.specs.declared.torn.Torn.{Torn}
use Rattle.disk.specs.declared.torn.Torn.TheVariants.{Old, New, Fill}
use Rattle.disk.specs.declared.memory.Call.{Call}
use Rattle.disk.specs.declared.memory.Call.TheVariants.{Wrote, Synced, StoppedAt, Stopped}
use Rattle.disk.specs.declared.sector.Content.{Content}
use Rattle.disk.specs.declared.sector.Content.TheVariants.{Filled, Written}
use Rattle.disk.specs.declared.sector.Sector.{Sector}

abbrev pub bytes_written : Option Call → List ℕ
bytes_written (Some (Wrote s bytes)) = bytes
bytes_written (Some Synced) = []
bytes_written (Some (StoppedAt s torn)) = []
bytes_written (Some (Stopped torn)) = []
bytes_written None = []

abbrev pub is_write : Option Call → Bool
is_write (Some (Wrote s bytes)) = true
is_write (Some Synced) = false
is_write (Some (StoppedAt s torn)) = false
is_write (Some (Stopped torn)) = false
is_write None = false

-- the bytes of a sector's content, by the record
abbrev pub bytes_of : List Call → Content → List ℕ
bytes_of calls (Filled byte) = filled byte
bytes_of calls (Written i) = bytes_written (slice_get calls i)

-- The content is one fill byte, or names a write of the record.
abbrev pub is_recorded : List Call → Content → Bool
is_recorded calls (Filled byte) = true
is_recorded calls (Written i) = is_write (slice_get calls i)

-- The sector was written after the newest sync, which is call number `synced`.
abbrev pub is_unsettled : ℕ → Sector → Bool
is_unsettled synced sector = nat_lt synced sector.written

-- the sector's content after the newest sync
abbrev pub settled_content : ℕ → Sector → Content
settled_content synced sector = if is_unsettled synced sector then sector.settled else sector.seen

abbrev pub torn_content : Torn → Sector → Content
torn_content Old sector = sector.settled
torn_content New sector = sector.seen
torn_content (Fill byte) sector = Filled byte

-- the sector's content after a stop of this kind
abbrev pub left_content : Torn → ℕ → Sector → Content
left_content torn synced sector = if is_unsettled synced sector then torn_content torn sector else sector.seen

abbrev pub blank : Sector
blank = record { seen = Filled 0; settled = Filled 0; written = 0 }

abbrev pub settled_with : Content → Sector
settled_with content = record { seen = content; settled = content; written = 0 }

-- The stored sector is sector k of this state.
pub record IsSectorOf (st : State) (calls : List Call) (synced : ℕ) (sector : Sector) (k : ℕ) : Type 0 where
  pub seen_is : bytes_of calls sector.seen ≡ st.seen k
  pub settled_is : bytes_of calls (settled_content synced sector) ≡ st.settled k
  pub unsettled_is : is_unsettled synced sector ≡ st.unsettled k
  pub seen_recorded : is_recorded calls sector.seen ≡ true
  pub settled_recorded : is_recorded calls sector.settled ≡ true
  pub written_before : sector.written ≤ length calls

-- The stored sectors are those that the recorded calls leave.
pub record IsReplay (sectors : List Sector) (synced : ℕ) (calls : List Call) : Type 0 where
  pub synced_before : synced ≤ length calls
  pub each : (k : ℕ) → k < length sectors → IsSectorOf (replay at_first calls) calls synced (get_or sectors k blank) k

happens_seen : (st : State) (call : Call) → MayLeave st st.seen → MayLeave (happens st call) (happens st call).seen
happens_seen st (Wrote s bytes) h k shut = let was = h k in grind (arith, nat_tests)
happens_seen st Synced h k shut = refl
happens_seen st (StoppedAt s torn) h k shut = let was = h k in grind (arith, nat_tests)
happens_seen st (Stopped torn) h k shut = refl

replay_seen : (st : State) (calls : List Call) → MayLeave st st.seen → MayLeave (replay st calls) (replay st calls).seen
replay_seen st [] h = h
replay_seen st (call ∷ calls) h = replay_seen (happens st call) calls (happens_seen st call h)

pub seen_left : (calls : List Call) → MayLeave (replay at_first calls) (replay at_first calls).seen
seen_left calls = replay_seen at_first calls (λ k shut. refl)

pub now_left : (calls : List Call) (t : ℕ) (c : Image) → t ≤ length calls → MayLeave (replay at_first calls) c → LeftSince calls t c
now_left calls t c le now =
    (length calls, le, omega arith, subst (λ (l : List Call). MayLeave (replay at_first l) c) (sym (take_all (length calls) calls (omega arith))) now)

pub only_left : (calls : List Call) (c : Image) → LeftSince calls (length calls) c → MayLeave (replay at_first calls) c
only_left calls c left = subst (λ (l : List Call). MayLeave (replay at_first l) c) (take_all left.0 calls left.1) left.3
