-- Two sessions of a store with a power cut after each (defined by this product).
use Rattle.std.specs.Prelude.{◌≡◌, ◌≢◌, ℕ, List, [], ◌∷◌, Result, Ok, Err}
use Rattle.engine.specs.State.{Contents}
use Rattle.engine.specs.declared.event.Event.{Event}
use Rattle.engine.specs.declared.event.Reply.{Reply}
use Rattle.disk.specs.Disk.{Image, NoneNew, Only}
use Rattle.disk.specs.Faulty.{inner_of, faults_of}
use Rattle.disk.specs.MemDisk.{state_of, sectors_of}
use Rattle.disk.specs.Memory.{MayLeave, left_by}
use Rattle.disk.specs.declared.disk.Disk.{Ghosts}
use Rattle.disk.specs.declared.faulty.FaultyDisk.{FaultyDisk}
use Rattle.disk.specs.declared.fuse.Fuse.{Fuse}
use Rattle.disk.specs.declared.memory.MemDisk.{MemDisk}
use Rattle.disk.specs.declared.torn.Torn.{Torn}
use Rattle.lattice.specs.declared.refusal.Refusal.TheVariants.{NoMemory}
use Rattle.roots.specs.declared.roots.NotOpened.{NotOpened}
use Rattle.store.specs.Accepted.{none_asked}
use Rattle.store.specs.Sessions.{AreCallsOf, Session, Unopened, Ended, Stopped, IsSession, EachFinds, first_disk, last_disk}
use Rattle.stored_mosaic.specs.Standing.{StandsFor}
use Rattle.store.specs.Stores.{disk_of}
use Rattle.store.specs.declared.store.Store.{Store}

-- a disk in memory whose calls all fail from some call on
abbrev pub CutDisk : Type 0
CutDisk = FaultyDisk MemDisk Fuse

-- Each image that a stop may leave of the disk stores these contents.
abbrev pub HoldsOnly : MemDisk → (side capacity : ℕ) → Contents → Type 0
HoldsOnly disk side capacity c = (image : Image) → MayLeave (state_of disk) image → StandsFor (sectors_of disk) side capacity image c

-- The power was cut: each unsettled sector was left as `torn` says, and all sectors are settled afterwards.
pub record IsCut (torn : Torn) (old new : MemDisk) : Type 0 where
  pub torn_so : (state_of new).seen ≡ left_by torn (state_of old)
  pub settled : Only (state_of new).seen (MayLeave (state_of new))
  pub none_new : NoneNew (MayLeave (state_of old)) (MayLeave (state_of new))
  pub sectors : sectors_of new ≡ sectors_of old

module _ (g : Ghosts CutDisk) where
  -- The opening was refused, and not with NoMemory.
  abbrev pub IsRefusedOpening : Result (Store CutDisk g) (NotOpened CutDisk) → Type 0
  IsRefusedOpening (Ok store) = ⊥
  IsRefusedOpening (Err e) = e.refusal ≢ NoMemory

  -- The session asked the events and had these answers; or its opening was refused, and it had no answers.
  abbrev pub AsksEvents : Session g → List Event → List Reply → Type 0
  AsksEvents (Unopened disk opened) events answers = IsRefusedOpening opened × (answers ≡ [])
  AsksEvents (Ended disk store calls) events answers = AreCallsOf g calls events answers
  AsksEvents (Stopped disk store calls last) events answers = ⊥

  -- A session asked the events on this disk, whose calls fail after this many, those of the opening included. Then the
  -- power was cut, which left each unsettled sector as `torn` says.
  pub record WasCutOff (disk : MemDisk) (passes : ℕ) (events : List Event) (torn : Torn) (answers : List Reply) (left : MemDisk) : Type 0 where
    pub session : Session g
    pub is : IsSession g session
    pub began : inner_of (first_disk g session) ≡ disk
    pub fuse : (faults_of (first_disk g session)).left ≡ passes
    pub asks : AsksEvents session events answers
    pub cut : IsCut torn (inner_of (last_disk g session)) left

  -- What the two sessions left was opened as this store. If the disk had a store at first, each of the openings finds
  -- the accepted commands.
  pub record FindsAccepted (disk left : MemDisk) (first second : Session g) (opened : Store CutDisk g) : Type 0 where
    pub read : (state_of (inner_of (disk_of opened))).seen ≡ (state_of left).seen
    pub next : CutDisk
    pub is : inner_of next ≡ left
    pub finds : (side capacity : ℕ) (was : Contents) → HoldsOnly disk side capacity was
        → EachFinds (λ (one : Unit {0}). g) side capacity was [] none_asked ((tt, first) ∷ (tt, second) ∷ (tt, Ended next opened []) ∷ [])
