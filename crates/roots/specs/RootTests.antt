-- What a test of the root reads of its slot, and in which order.
use Rattle.std.specs.Prelude.{◌≡◌, ℕ, List, Bool, true}
use Rattle.disk.specs.declared.disk.Disk.{Ghosts}
use Rattle.page_codec.specs.Roots.{RootValue}
use Rattle.roots.specs.Slots.{gate, is_open, root_sector, IsSpelledBy}
use Rattle.roots.specs.declared.slot.Slot.{Slot}

-- The gate of the slot was read first, and then its root, and no sector else. The answer is yes only where the gate was open, and
-- the bytes behind it were those of this root.
pub record HasTested {D : Type 0} (g : Ghosts D) (slot : Slot) (root : RootValue) (old : D) (yes : Bool) (new : D) : Type 0 where
  pub mid : D
  pub gate_bytes : List ℕ
  pub root_bytes : List ℕ
  pub gate_first : g.has_read old (gate slot) true gate_bytes mid
  pub then_root : g.has_read mid (root_sector slot) true root_bytes new
  pub was_open : yes ≡ true → is_open gate_bytes ≡ true
  pub was_there : yes ≡ true → IsSpelledBy root root_bytes
