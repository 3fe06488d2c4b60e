-- The parts of a store that contracts name (defined by this product).
use Rattle.std.specs.Prelude.{ℕ, Bool, Result, Ok, Err}
use Rattle.disk.specs.declared.disk.Disk.{Ghosts}
use Rattle.page_codec.specs.Roots.{RootValue}
use Rattle.engine.specs.State.{State}
use Rattle.cow_tree.specs.Trees.{disk_of as disk_under, root_of as root_under, slot_of as slot_under, has_failed as have_failed}
use Rattle.roots.specs.declared.roots.NotOpened.{NotOpened}
use Rattle.roots.specs.declared.slot.Slot.{Slot}
use Rattle.store.specs.Water.{IsHolding}
use Rattle.store.specs.declared.store.Store.{Store}

module _ {D : Type 0} {g : Ghosts D} where
  abbrev pub disk_of : Store D g → D
  disk_of store = disk_under store.tree

  -- the current root as last known
  abbrev pub root_of : Store D g → RootValue
  root_of store = root_under store.tree

  -- the slot in which it stands
  abbrev pub slot_of : Store D g → Slot
  slot_of store = slot_under store.tree

  abbrev pub side_of : Store D g → ℕ
  side_of store = (root_of store).side

  abbrev pub capacity_of : Store D g → ℕ
  capacity_of store = (root_of store).capacity

  -- A call of the disk failed or a reopening was refused, and no opening has succeeded since.
  abbrev pub has_failed : Store D g → Bool
  has_failed store = have_failed store.tree

  -- the disk after opening: in the store, or in the refusal
  abbrev pub disk_after : Result (Store D g) (NotOpened D) → D
  disk_after (Ok store) = disk_of store
  disk_after (Err e) = e.disk

-- The store is in this state, and its cache of water is right for it.
abbrev pub IsAt : {D : Type 0} (g : Ghosts D) → Store D g → State → Type 0
IsAt g store s = IsHolding g store.tree store.held s
