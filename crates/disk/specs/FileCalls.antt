-- The calls on a file with their answers, and what an honest file answers. Source: this product's own disk model.
use Rattle.std.specs.Prelude.{◌≡◌, ◌⊎◌, ℕ, ◌≤◌, List, [], ◌∷◌, length, Option, Bool, true, false, if◌then◌else◌, ◌==◌}
use Rattle.disk.specs.Disk.{Image, SameBut}
use Rattle.disk.specs.Memory.{State, MayLeave}

-- a call that changes no sector
pub data Aside : Type 0 where
  -- The file at the path was asked for, new or existing, with any answer.
  makes : (path : List ℕ) → Aside
  opens : (path : List ℕ) → Aside
  -- a file that is there was asked for, to be read alone
  opens_to_read : (path : List ℕ) → Aside
  -- so many bytes at most of the file at the path were asked for, and these were given, or none were
  reads : (path : List ℕ) → (most : ℕ) → Option (List ℕ) → Aside
  -- The file was closed after this number of calls.
  closes : ℕ → Aside
  -- A file was made at a path that had none.
  made : Aside
  -- The existing file at the path was opened.
  opened : Aside
  -- The lock was asked for; the answer says whether the file is locked.
  locked : Bool → Aside
  -- The length in bytes was asked for; success and the length are the answer.
  measured : Bool → ℕ → Aside
  -- The file's folder was synced, with this answer.
  folder_synced : Bool → Aside
  -- The note beside the file was read: it names this sector, or no note of this file exists.
  note_read : Option ℕ → Aside
  -- The file's length was set to this number of sectors, its sectors unchanged, with this answer.
  resized : ℕ → Bool → Aside
  -- The file's length was synced, with this answer.
  length_synced : Bool → Aside
  -- The note beside the file was made: this sector is about to be written.
  noted : ℕ → Aside
  -- The note was removed, with this answer.
  cleared : Bool → Aside

-- one call on a file and its answer
pub data Answered : Type 0 where
  -- a read: the sector, whether it succeeded, and the bytes that the buffer then has
  read : ℕ → Bool → List ℕ → Answered
  -- a write: the sector, whether it succeeded, and the bytes written
  written : ℕ → Bool → List ℕ → Answered
  synced : Bool → Answered
  -- The system was asked to drop its cache of the file, with this answer.
  forgotten : Bool → Answered
  aside : Aside → Answered

-- the state after a call, if reads give this image from then on
abbrev pub after_answer : Answered → Image → State → State
after_answer (read s ok bytes) image st = record { seen = image; settled = st.settled; unsettled = st.unsettled }
after_answer (written s ok bytes) image st = record { seen = image; settled = st.settled; unsettled = λ k. if k == s then true else st.unsettled k }
after_answer (synced ok) image st = record { seen = image; settled = if ok then st.seen else st.settled; unsettled = λ k. if ok then false else st.unsettled k }
after_answer (forgotten ok) image st = record { seen = image; settled = st.settled; unsettled = st.unsettled }
after_answer (aside call) image st = record { seen = image; settled = st.settled; unsettled = st.unsettled }

-- One answer of an honest file: the state before the call, and what reads give after it. A read changes nothing, nor
-- does a sync that succeeds. After a failed write its sector may read as any bytes. After a failed sync, or after the
-- system has dropped its cache, each unsettled sector may.
abbrev pub IsRight : Answered → State → Image → Type 0
IsRight (read s ok bytes) st image = (ok ≡ true → bytes ≡ st.seen s) × (image ≡ st.seen)
IsRight (written s ok bytes) st image = (ok ≡ true → image s ≡ bytes) × SameBut s st.seen image
IsRight (synced ok) st image = (ok ≡ true → image ≡ st.seen) × ((k : ℕ) → st.unsettled k ≡ false → st.seen k ≡ image k)
IsRight (forgotten ok) st image = (k : ℕ) → st.unsettled k ≡ false → st.seen k ≡ image k
IsRight (aside call) st image = image ≡ st.seen

-- Calls are listed newest first. Reads give image number n after n calls.
module _ (images : ℕ → Image) where
  -- the state after these calls, where all sectors are settled at first
  abbrev pub state_after : List Answered → State
  state_after [] = record { seen = images 0; settled = images 0; unsettled = λ k. false }
  state_after (call ∷ earlier) = after_answer call (images (length (call ∷ earlier))) (state_after earlier)

  -- Each answer is right for these images.
  abbrev pub IsHonest : List Answered → Type 0
  IsHonest [] = Unit {0}
  IsHonest (call ∷ earlier) = IsRight call (state_after earlier) (images (length (call ∷ earlier))) × IsHonest earlier

  -- A stop at some moment after the first t calls may leave this image.
  abbrev pub LeftSince : List Answered → ℕ → Image → Type 0
  LeftSince [] t c = (t ≤ 0) × MayLeave (state_after []) c
  LeftSince (call ∷ earlier) t c = ((t ≤ length (call ∷ earlier)) × MayLeave (state_after (call ∷ earlier)) c) ⊎ LeftSince earlier t c
