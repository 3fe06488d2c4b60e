-- The parts of opened roots that contracts name.
use Rattle.std.specs.Prelude.{◌≡◌, Bool, false, Result, Ok, Err}
use Rattle.disk.specs.Disk.{Image}
use Rattle.disk.specs.declared.disk.Disk.{Ghosts}
use Rattle.lattice.specs.declared.refusal.Refusal.{Refusal}
use Rattle.page_codec.specs.Roots.{RootValue}
use Rattle.roots.specs.Slots.{IsCurrent, IsAt}
use Rattle.roots.specs.declared.roots.NotOpened.{NotOpened}
use Rattle.roots.specs.declared.roots.Roots.{Roots}
use Rattle.roots.specs.declared.slot.Slot.{Slot}

-- the answer of a second opening that has left this root
abbrev pub reopened_as : Result (Unit {0}) Refusal → RootValue → Result RootValue Refusal
reopened_as (Ok done) root = Ok root
reopened_as (Err refusal) root = Err refusal

module _ {D : Type 0} {g : Ghosts D} where
  abbrev pub disk_of : Roots D g → D
  disk_of roots = roots.disk

  -- the current root as last known
  abbrev pub root_of : Roots D g → RootValue
  root_of roots = roots.root

  -- the slot in which the current root stands, as it was last known
  abbrev pub slot_of : Roots D g → Slot
  slot_of roots = roots.slot

  -- a commit has begun, and neither was it done nor came an opening since
  abbrev pub has_begun : Roots D g → Bool
  has_begun roots = roots.begun

  -- A call was refused, and no opening has succeeded since.
  abbrev pub has_failed : Roots D g → Bool
  has_failed roots = roots.failed

  -- the disk after opening: in the opened roots, or in the refusal
  abbrev pub disk_after : Result (Roots D g) (NotOpened D) → D
  disk_after (Ok roots) = roots.disk
  disk_after (Err e) = e.disk

  -- the root, or the refusal
  abbrev pub opened_as : Result (Roots D g) (NotOpened D) → Result RootValue Refusal
  opened_as (Ok roots) = Ok roots.root
  opened_as (Err e) = Err e.refusal

-- No call has failed, and the known root is the current one in each image that a stop may leave.
pub record IsReady {D : Type 0} (g : Ghosts D) (roots : Roots D g) : Type 0 where
  pub works : has_failed roots ≡ false
  pub each : (image : Image) → g.may roots.disk image → IsAt roots.slot roots.other_open roots.root image

pub ready_current : {D : Type 0} (g : Ghosts D) (roots : Roots D g) (image : Image) → IsReady g roots → g.may roots.disk image → IsCurrent (root_of roots) image
ready_current g roots image ready may = (roots.slot, (ready.each image may).current)
