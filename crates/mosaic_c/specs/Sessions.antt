-- What calls promise about a handle (defined by this product).
use Rattle.std.specs.Prelude.{◌≡◌, ◌≢◌, ◌⊎◌, ℕ, nat_le, if◌then◌else◌, List, length, Option, Some, None, is_some, Result, Ok, Err, IfOk, IfErr}
use Rattle.lattice.specs.Mosaic.{Mosaic}
use Rattle.lattice.specs.Refusals.{number_of}
use Rattle.lattice.specs.declared.refusal.Refusal.{Refusal}
use Rattle.lattice.specs.declared.refusal.Refusal.TheVariants.{Device, Failed}
use Rattle.engine.specs.Events.{Happens}
use Rattle.engine.specs.State.{Contents, State, working}
use Rattle.engine.specs.declared.event.Event.{Event}
use Rattle.engine.specs.declared.event.Reply.{Reply}
use Rattle.engine.specs.declared.event.Reply.TheVariants as reply
use Rattle.cow_tree.specs.Trees.{IsRefused}
use Rattle.image_disk.specs.ImageDisks.{failures_of}
use Rattle.image_disk.specs.Images.{sectors_in, image_in}
use Rattle.image_disk.specs.contracts.ImageDiskDisk.TheImpl.{ghosts}
use Rattle.lines.specs.Telling as lines
use Rattle.store.specs.Stores.{IsAt, capacity_of, disk_of}
use Rattle.windows.specs.Lines.{AsksOnly, IsNoQuestion, IsPut}
use Rattle.mosaic_c.specs.declared.session.Session.{Session}
use Rattle.mosaic_c.specs.declared.handle.Handle.{Handle}

-- The session's store has this capacity and these contents, and no call of its image has failed.
pub record IsOpen (session : Session) (capacity : ℕ) (contents : Contents) : Type 0 where
  pub at : IsAt ghosts session.store (working contents)
  pub takes : capacity_of session.store ≡ capacity
  pub none_failed : failures_of (disk_of session.store) ≡ 0

abbrev pub IsOpenAt : Option Session → ℕ → Contents → Type 0
IsOpenAt None capacity contents = ⊥
IsOpenAt (Some session) capacity contents = IsOpen session capacity contents

-- The handle has a store with this capacity and these contents.
abbrev pub HasIn : Handle → ℕ → Contents → Type 0
HasIn handle capacity contents = IsOpenAt handle.kept.session capacity contents

-- Opening these bytes as an image is refused with this number, if no call fails and memory suffices.
abbrev pub IsRefusedBy : List ℕ → ℕ → Type 0
IsRefusedBy bytes number = (why : Refusal) × (IsRefused (sectors_in bytes) (image_in bytes) why × (number ≡ number_of why))

-- On any answer an open store stays open with its contents. If the answer is 0, `Says` is true of them.
pub record Tells (old new : Handle) (number : ℕ) (Says : Contents → Type 0) : Type 0 where
  pub stays : is_some new.kept.session ≡ is_some old.kept.session
  pub kept : (capacity : ℕ) (contents : Contents) → HasIn old capacity contents → HasIn new capacity contents
  pub says : number ≡ 0 → (capacity : ℕ) (contents : Contents) → HasIn old capacity contents → Says contents

-- The refusal is neither Device nor Failed.
abbrev pub BlamesNoDisk : Refusal → Type 0
BlamesNoDisk r = (r ≢ Device) × (r ≢ Failed)

-- 0, or the number of the refusal
abbrev pub number_in : {T : Type 0} → Result T Refusal → ℕ
number_in (Ok value) = 0
number_in (Err r) = number_of r

-- The answer is the number of a question's result, and its value is written.
pub record Told {T : Type 0} (old new : Handle) (number : ℕ) (value : T) (first : Option Refusal) (Says : Mosaic → Result T Refusal → Type 0) : Type 0 where
  pub result : Result T Refusal
  pub number_is : number ≡ number_in result
  pub value_is : IfOk result (λ put. value ≡ put)
  -- Failed if the handle has no store.
  pub closed : old.kept.session ≡ None → result ≡ Err Failed
  -- A store stays in the handle with its contents, and no store is added. The question is refused at once if that is
  -- due; otherwise it is answered from these contents.
  pub stays : is_some new.kept.session ≡ is_some old.kept.session
  pub kept : (capacity : ℕ) (contents : Contents) → HasIn old capacity contents → HasIn new capacity contents
  pub refused : (r : Refusal) → first ≡ Some r → (capacity : ℕ) (contents : Contents) → HasIn old capacity contents → result ≡ Err r
  pub says : first ≡ None → (capacity : ℕ) (contents : Contents) → HasIn old capacity contents → Says contents.mosaic result
  -- An image's reads never fail, so the refusal is neither Device nor Failed.
  pub sure : first ≡ None → (capacity : ℕ) (contents : Contents) → HasIn old capacity contents → IfErr result BlamesNoDisk

-- `count` bytes are the reply to the line, of a store with this capacity and these contents. They are written if there
-- was room.
pub record IsReplyOf (capacity : ℕ) (contents : Contents) (line : List ℕ) (count : ℕ) (into : List ℕ) : Type 0 where
  pub event : Event
  pub asks : AsksOnly line event
  pub answer : Reply
  pub after : State
  pub happens : Happens capacity (working contents) event answer after
  -- The refusal is neither Device nor Failed.
  pub sure : (r : Refusal) → answer ≡ reply.Refused r → BlamesNoDisk r
  pub text : List ℕ
  pub told : lines.Tells answer text
  pub put : IsPut text into count

-- The line was asked: the answer is 0, or BadLength's number if there wasn't room. Or the line isn't a question.
pub record ToldLine (old new : Handle) (line : List ℕ) (number count : ℕ) (into : List ℕ) : Type 0 where
  pub closed : old.kept.session ≡ None → number ≡ number_of Failed
  pub stays : is_some new.kept.session ≡ is_some old.kept.session
  pub kept : (capacity : ℕ) (contents : Contents) → HasIn old capacity contents → HasIn new capacity contents
  pub says : (capacity : ℕ) (contents : Contents) → HasIn old capacity contents →
      ((r : Refusal) × (IsNoQuestion line r × (number ≡ number_of r))) ⊎ (IsReplyOf capacity contents line count into × (number ≡ (if nat_le count (length into) then 0 else 3)))
