-- The state of a disk in memory, and how each call and each stop changes it.
use Rattle.std.specs.Prelude.{◌≡◌, ℕ, ◌≤◌, List, [], ◌∷◌, length, take, replicate, Bool, true, false, if◌then◌else◌, ◌==◌}
use Rattle.disk.specs.Disk.{Image}
use Rattle.disk.specs.declared.torn.Torn.{Torn}
use Rattle.disk.specs.declared.torn.Torn.TheVariants.{Old, New, Fill}
use Rattle.disk.specs.declared.memory.Call.{Call}
use Rattle.disk.specs.declared.memory.Call.TheVariants.{Wrote, Synced, StoppedAt, Stopped}

pub record State : Type 0 where
  -- what reads give
  pub seen : Image
  -- what the last sync left
  pub settled : Image
  -- which sectors were written since the last sync
  pub unsettled : ℕ → Bool

-- a sector that repeats one byte
unfoldable pub filled : ℕ → List ℕ
filled byte = replicate 4096 byte

-- the image with other bytes in one sector
abbrev pub put : ℕ → List ℕ → Image → Image
put s bytes image k = if k == s then bytes else image k

-- the bytes of a sector after a stop of this kind, from its settled bytes and the bytes that reads give
abbrev pub torn_bytes : Torn → List ℕ → List ℕ → List ℕ
torn_bytes Old settled seen = settled
torn_bytes New settled seen = seen
torn_bytes (Fill byte) settled seen = filled byte

-- what a stop leaves of a sector
abbrev pub left_by : Torn → State → Image
left_by torn st k = if st.unsettled k then torn_bytes torn (st.settled k) (st.seen k) else st.seen k

abbrev pub at_first : State
at_first = record { seen = λ k. filled 0; settled = λ k. filled 0; unsettled = λ k. false }

abbrev pub after_write : ℕ → List ℕ → State → State
after_write s bytes st = record { seen = put s bytes st.seen; settled = st.settled; unsettled = λ k. if k == s then true else st.unsettled k }

abbrev pub after_sync : State → State
after_sync st = record { seen = st.seen; settled = st.seen; unsettled = λ k. false }

-- the state after a stop that settles this sector alone
abbrev pub after_stop_at : ℕ → Torn → State → State
after_stop_at s torn st = record { seen = put s (left_by torn st s) st.seen; settled = put s (left_by torn st s) st.settled; unsettled = λ k. if k == s then false else st.unsettled k }

abbrev pub after_stop : Torn → State → State
after_stop torn st = record { seen = left_by torn st; settled = left_by torn st; unsettled = λ k. false }

abbrev pub happens : State → Call → State
happens st (Wrote s bytes) = after_write s bytes st
happens st Synced = after_sync st
happens st (StoppedAt s torn) = after_stop_at s torn st
happens st (Stopped torn) = after_stop torn st

-- the state after these calls, oldest first
abbrev pub replay : State → List Call → State
replay st [] = st
replay st (call ∷ calls) = replay (happens st call) calls

-- A stop in this state may leave any image that agrees with the settled image in each settled sector.
abbrev pub MayLeave : State → Image → Type 0
MayLeave st c = (k : ℕ) → st.unsettled k ≡ false → c k ≡ st.settled k

-- A stop at some moment after the first t calls may leave this image.
abbrev pub LeftSince : List Call → ℕ → Image → Type 0
LeftSince calls t c = (k : ℕ) × (t ≤ k) × (k ≤ length calls) × MayLeave (replay at_first (take k calls)) c
