-- How a step changes what a tree stores, and what a stop during it leaves (defined by this product).
use Rattle.std.specs.Prelude.{◌≡◌, ◌≢◌, ◌<◌, ◌+◌, ◌^◌, ◌⊎◌, false, [], Contains, Option, Some, None, Result, Ok, Err, OnOk, OnErr}
use Rattle.disk.specs.Stops.{LeavesOnly}
use Rattle.disk.specs.declared.disk.Disk.{Ghosts}
use Rattle.lattice.specs.Corners.{Corner}
use Rattle.lattice.specs.Mosaic.{Mosaic}
use Rattle.lattice.specs.declared.refusal.Refusal.{Refusal}
use Rattle.lattice.specs.declared.refusal.Refusal.TheVariants.{Device, NoMemory, Worn}
use Rattle.page_codec.specs.Roots.{RootValue}
use Rattle.cow_tree.specs.Clean.{IsClean}
use Rattle.cow_tree.specs.Kept.{with_kept}
use Rattle.cow_tree.specs.Layout.{Stands}
use Rattle.cow_tree.specs.Stored.{KeptPlanes, Stored, next_commit}
use Rattle.cow_tree.specs.Trees.{disk_of, root_of, has_failed, sinks_of, IsAt}
use Rattle.cow_tree.specs.Uncommitted.{CommitsNothing, Returns}
use Rattle.cow_tree.specs.declared.tree.Tree.{Tree}
use Rattle.derived.specs.Kept.{AreRight, KeepsRight, mosaic_stored, stale_in, stale_corners}

-- ---- any call that may commit

-- Nothing was committed, written, staged or declared, and no call failed.
pub record StaysClean {D T : Type 0} (g : Ghosts D) (old new : Tree D g) (result : Result T Refusal) : Type 0 where
  pub uncommitted : CommitsNothing g old new result
  pub works : has_failed new ≡ false
  pub clean : IsClean new
  pub declared : sinks_of new ≡ (root_of new).sinks
  pub writes : g.writes (disk_of new) ≡ g.writes (disk_of old)

-- A commit was made, and the tree stores what the commit makes of the old contents; or the disk failed in the commit or
-- before it. A stop at any moment leaves the old contents or the new.
pub record Commits {D T : Type 0} (g : Ghosts D) (Makes : Stored → Stored) (old new : Tree D g) (result : Result T Refusal) : Type 0 where
  pub returns : Returns g old new result
  pub side : (root_of new).side ≡ (root_of old).side
  pub capacity : (root_of new).capacity ≡ (root_of old).capacity
  pub number : OnOk result ((root_of new).number ≡ (root_of old).number + 1)
  pub last_known : OnErr result (root_of new ≡ root_of old)
  -- After Ok nothing is staged or declared.
  pub clean : OnOk result (IsClean new)
  pub declared : OnOk result (sinks_of new ≡ (root_of new).sinks)
  pub at : g.honest (disk_of new) → (s : Stored) → IsAt g old s → OnOk result (IsAt g new (Makes s))
  pub run : g.honest (disk_of new) → (s : Stored) → IsAt g old s
      → LeavesOnly g (disk_of old) (disk_of new) (λ image. Stands (g.size (disk_of old)) image s ⊎ Stands (g.size (disk_of old)) image (Makes s))

-- ---- steps

-- A step is one commit: same tiles, same count of commands; one stale tile gets right levels and labels. Then all kept
-- planes are right.
pub record IsStepped (was : Stored) (c : Corner) (now : Stored) : Type 0 where
  pub stale : Contains (stale_corners was.tiles) c
  pub kept : KeptPlanes
  pub right : AreRight (mosaic_stored was) c kept
  pub now_is : now ≡ next_commit was was.sinks (with_kept c kept was.tiles) was.count
  pub still : KeepsRight now

-- the tile is stale, and the commit number can grow
pub record MayStep (root : RootValue) (c : Corner) : Type 0 where
  pub stale : Contains (stale_in root) c
  pub room : root.number + 1 < 2 ^ 64

-- The commit of the tile's step was made, or the disk failed in it. If all kept planes were right and the mosaic has P,
-- the commit is a step.
pub record Steps {D T : Type 0} (g : Ghosts D) (P : Mosaic → Type 0) (old new : Tree D g) (c : Corner) (result : Result T Refusal) : Type 0 where
  pub makes : Stored → Stored
  pub commits : Commits g makes old new result
  pub same_version : (root_of new).version ≡ (root_of old).version
  pub same_count : OnOk result ((root_of new).count ≡ (root_of old).count)
  pub stepped : g.honest (disk_of new) → (s : Stored) → P (mosaic_stored s) → IsAt g old s → KeepsRight s → IsStepped s c (makes s)

-- The step was made and answered Ok, by a tree that hadn't failed.
abbrev pub HasStepped : {D : Type 0} (g : Ghosts D) → (Mosaic → Type 0) → Tree D g → Tree D g → Result (Option Corner) Refusal → Type 0
HasStepped g P old new (Ok None) = StaysClean {T = Unit {0}} g old new (Ok tt) × (stale_in (root_of old) ≡ [])
HasStepped g P old new (Ok (Some c)) = MayStep (root_of old) c × Steps {T = Unit {0}} g P old new c (Ok tt)
HasStepped g P old new (Err Device) =
    (c : Corner) × MayStep (root_of old) c × (CommitsNothing {T = Unit {0}} g old new (Err Device) ⊎ Steps {T = Unit {0}} g P old new c (Err Device))
HasStepped g P old new (Err NoMemory) = StaysClean {T = Unit {0}} g old new (Err NoMemory)
HasStepped g P old new (Err Worn) = StaysClean {T = Unit {0}} g old new (Ok tt) × ((root_of old).number ≡ 18446744073709551615) × (stale_in (root_of old) ≢ [])
HasStepped g P old new (Err r) = ⊥
