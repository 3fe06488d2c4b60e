-- Laws of the record of a file's calls: a file's record is honest exactly where its answers are those of a disk that
-- behaves as the model says. Source: this product's own disk model.
use Rattle.std.specs.Prelude.{◌≡◌, ◌≢◌, ℕ, ◌≤◌, nat_le, List, [], ◌∷◌, length, true, false, if◌then◌else◌}
use Rattle.disk.specs.Disk.{Image, SameBut, TornAt, NoneNew, Only, Elapses, Nothing}
use Rattle.disk.specs.Memory.{State, MayLeave, after_write, after_sync}
use Rattle.disk.specs.FileCalls.{Answered, read, written, synced, forgotten, aside, state_after, IsHonest, LeftSince}
use Rattle.disk.specs.declared.disk.Disk.{Ghosts}

-- one call of an honest disk; a call that fails has the bytes that the disk then chooses
pub data Step : Type 0 where
  reads : ℕ → Step
  -- a failed read, with the bytes that the buffer then has
  read_fails : ℕ → List ℕ → Step
  writes : ℕ → List ℕ → Step
  -- a failed write, with the bytes that the sector reads as afterwards
  write_fails : ℕ → List ℕ → List ℕ → Step
  syncs : Step
  -- a failed sync, with what unsettled sectors read as afterwards
  sync_fails : Image → Step

abbrev pub next : State → Step → State
next st (reads s) = st
next st (read_fails s bytes) = st
next st (writes s bytes) = after_write s bytes st
next st (write_fails s bytes left) = after_write s left st
next st syncs = after_sync st
next st (sync_fails left) = record { seen = λ k. if st.unsettled k then left k else st.seen k; settled = st.settled; unsettled = st.unsettled }

abbrev pub answer : State → Step → Answered
answer st (reads s) = read s true (st.seen s)
answer st (read_fails s bytes) = read s false bytes
answer st (writes s bytes) = written s true bytes
answer st (write_fails s bytes left) = written s false bytes
answer st syncs = synced true
answer st (sync_fails left) = synced false

-- the state after these steps, newest first, from a settled image
abbrev pub state_of_run : Image → List Step → State
state_of_run first [] = record { seen = first; settled = first; unsettled = λ k. false }
state_of_run first (step ∷ earlier) = next (state_of_run first earlier) step

abbrev pub answers : Image → List Step → List Answered
answers first [] = []
answers first (step ∷ earlier) = answer (state_of_run first earlier) step ∷ answers first earlier

-- what reads give after this number of steps
abbrev pub shown : Image → List Step → ℕ → Image
shown first [] n = first
shown first (step ∷ earlier) n = if nat_le n (length earlier) then shown first earlier n else (state_of_run first (step ∷ earlier)).seen

-- The record of a run is honest, and its state is the state of the run.
pub record IsRecordOf (first : Image) (steps : List Step) : Type 0 where
  pub honest : IsHonest (shown first steps) (answers first steps)
  pub state : state_after (shown first steps) (answers first steps) ≡ state_of_run first steps

-- Every run of an honest disk has an honest record, also a run with faults.
abbrev pub RunsHaveHonestRecords : Type 0
RunsHaveHonestRecords = (first : Image) (steps : List Step) → IsRecordOf first steps

module _ {D : Type 0} (g : Ghosts D) where
  -- what a disk's contract promises for one call, if the disk is honest after it
  abbrev pub Tells : Answered → D → D → Type 0
  Tells (read s ok bytes) old new = (ok ≡ true → bytes ≡ g.seen old s) × (g.seen new ≡ g.seen old) × NoneNew (g.may old) (g.may new)
      × Elapses (g.moment old) (g.moment new) (g.since old) (g.since new) Nothing
  Tells (written s ok bytes) old new = (ok ≡ true → g.seen new s ≡ bytes) × SameBut s (g.seen old) (g.seen new) × NoneNew (TornAt s (g.may old)) (g.may new)
      × Elapses (g.moment old) (g.moment new) (g.since old) (g.since new) (TornAt s (g.may old))
  Tells (synced ok) old new = (ok ≡ true → Only (g.seen old) (g.may new)) × NoneNew (g.may old) (g.may new)
      × Elapses (g.moment old) (g.moment new) (g.since old) (g.since new) Nothing
  -- A disk has no other calls of a file.
  Tells (forgotten ok) old new = ⊥
  Tells (aside call) old new = ⊥

  -- The disk is settled at first, and is in state number n after n of these calls. Calls are listed newest first.
  abbrev pub AreTold : (ℕ → D) → List Answered → Type 0
  AreTold at [] = Only (g.seen (at 0)) (g.may (at 0))
  AreTold at (call ∷ earlier) = Tells call (at (length earlier)) (at (length (call ∷ earlier))) × AreTold at earlier

  -- The record is honest for what the disk's reads give. A stop leaves, and might have left, only what the record says.
  pub record IsTrueRecord (at : ℕ → D) (calls : List Answered) : Type 0 where
    pub honest : IsHonest (λ n. g.seen (at n)) calls
    pub left : NoneNew (MayLeave (state_after (λ n. g.seen (at n)) calls)) (g.may (at (length calls)))
    pub left_since : (n : ℕ) (c : Image) → n ≤ length calls → g.since (at (length calls)) (g.moment (at n)) c → LeftSince (λ n. g.seen (at n)) calls n c

  -- Every disk that stays honest has an honest record.
  abbrev pub DisksHaveHonestRecords : Type 0
  DisksHaveHonestRecords = (at : ℕ → D) (calls : List Answered) → ((n : ℕ) → g.honest (at n)) → AreTold at calls → IsTrueRecord at calls

-- A read of other bytes than the images have isn't honest.
abbrev pub FalseReadsShow : Type 0
FalseReadsShow = (images : ℕ → Image) (earlier : List Answered) (s : ℕ) (bytes : List ℕ)
    → bytes ≢ images (length earlier) s → ¬ IsHonest images (read s true bytes ∷ earlier)

-- If a read doesn't give what was just written, the record is honest for no images.
abbrev pub LostWritesShow : Type 0
LostWritesShow = (images : ℕ → Image) (earlier : List Answered) (s : ℕ) (given found : List ℕ)
    → found ≢ given → ¬ IsHonest images (read s true found ∷ written s true given ∷ earlier)
