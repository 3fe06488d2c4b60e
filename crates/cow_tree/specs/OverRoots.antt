-- How the calls of a tree change its roots.
use Rattle.std.specs.Prelude.{◌≡◌, ◌⊎◌, ℕ, ◌+◌, ◌≤◌, true, false, List, All, Contains, length, Result, OnOk, OnErr, IfErr, IsErrOf, if◌then◌else◌}
use Rattle.disk.specs.declared.disk.Disk.{Ghosts}
use Rattle.roots.specs.Opening.{IsRefusalOfOpening}
use Rattle.roots.specs.Roots.{IsReady, disk_of, root_of, has_begun, has_failed}
use Rattle.roots.specs.declared.roots.Roots.{Roots}
use Rattle.page_map.specs.Locations.{times}
use Rattle.page_map.specs.TileLocations.{TileLocation, reached}
use Rattle.cow_tree.specs.Layout.{StoresAt}
use Rattle.cow_tree.specs.Stored.{Stored}
use Rattle.disk.specs.Disk.{Image, HasRisen}
use Rattle.disk.specs.Stops.{AddsNothing, LeavesOnly, HasCause}
use Rattle.lattice.specs.declared.refusal.Refusal.{Refusal}
use Rattle.lattice.specs.declared.refusal.Refusal.TheVariants.{Device, NoMemory, Damaged}

-- Each image that a stop may leave has the current root and these tiles, and stores this content.
abbrev pub EachStores : {D : Type 0} (g : Ghosts D) → Roots D g → List TileLocation → Stored → Type 0
EachStores g roots tiles s = (image : Image) → g.may (disk_of roots) image → StoresAt (g.size (disk_of roots)) (root_of roots) tiles s image

-- The call only read, and may have been refused.
pub record OnlyReads {D T : Type 0} (g : Ghosts D) (old new : Roots D g) (result : Result T Refusal) : Type 0 where
  pub size : g.size (disk_of new) ≡ g.size (disk_of old)
  pub writes : g.writes (disk_of new) ≡ g.writes (disk_of old)
  pub later : g.failures (disk_of old) ≤ g.failures (disk_of new)
  pub device : IsErrOf result Device → HasRisen (g.failures (disk_of old)) (g.failures (disk_of new))
  pub root : root_of new ≡ root_of old
  pub begun : has_begun new ≡ has_begun old
  pub works : (has_failed new ≡ false) ⊎ IsErrOf result Device
  pub honest : g.honest (disk_of new) → g.honest (disk_of old)
  pub seen : g.honest (disk_of new) → g.seen (disk_of new) ≡ g.seen (disk_of old)
  pub nothing : g.honest (disk_of new) → AddsNothing g (disk_of old) (disk_of new)
  pub ready : g.honest (disk_of new) → IsReady g old → has_failed new ≡ false → IsReady g new

-- The call wrote these pages and no others, or the disk refused it. A stop at any moment leaves what each image stored,
-- if its tiles reach none of these pages.
pub record WritesPages {D T : Type 0} (g : Ghosts D) (pages : List ℕ) (old new : Roots D g) (result : Result T Refusal) : Type 0 where
  pub size : g.size (disk_of new) ≡ g.size (disk_of old)
  pub cause : HasCause (g.failures (disk_of old)) (g.failures (disk_of new)) result
  pub refused : IfErr result (λ why. why ≡ Device)
  pub few : g.writes (disk_of new) ≤ g.writes (disk_of old) + length pages + (if has_begun old then 0 else 1)
  pub writes : OnOk result (g.writes (disk_of new) + (if has_begun new then 0 else 1) ≤ g.writes (disk_of old) + length pages + (if has_begun old then 0 else 1))
  pub honest : g.honest (disk_of new) → g.honest (disk_of old)
  pub root : root_of new ≡ root_of old
  pub works : OnOk result (has_failed new ≡ false)
  pub failed : OnErr result (has_failed new ≡ true)
  pub ready : g.honest (disk_of new) → IsReady g old → OnOk result (IsReady g new)
  pub others : g.honest (disk_of new) → OnOk result ((p : ℕ) → 4 ≤ p → times p pages ≡ 0 → g.seen (disk_of old) p ≡ g.seen (disk_of new) p)
  pub any_moment : g.honest (disk_of new) → IsReady g old → (tiles : List TileLocation) (s : Stored) → All (λ p. ¬ Contains (reached tiles) p) pages → EachStores g old tiles s
      → LeavesOnly g (disk_of old) (disk_of new) (StoresAt (g.size (disk_of old)) (root_of old) tiles s)

-- The refusal is Device, NoMemory, or Damaged for this reason.
abbrev pub IsRefusedFor : Type 0 → Refusal → Type 0
IsRefusedFor reason why = (why ≡ Device) ⊎ ((why ≡ NoMemory) ⊎ ((why ≡ Damaged) × reason))

-- the refusals that opening a tree may answer, on any disk
abbrev pub IsRefusalOfTree : Refusal → Type 0
IsRefusalOfTree why = IsRefusalOfOpening why ⊎ (why ≡ NoMemory)
