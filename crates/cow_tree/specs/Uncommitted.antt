-- Calls of a tree: what their answers show, and which calls commit nothing (defined by this product).
use Rattle.std.specs.Prelude.{◌≡◌, ◌≤◌, false, true, Result, OnOk, IsErrOf}
use Rattle.disk.specs.Disk.{HasRisen}
use Rattle.disk.specs.Stops.{LeavesOnly}
use Rattle.disk.specs.declared.disk.Disk.{Ghosts}
use Rattle.lattice.specs.declared.refusal.Refusal.{Refusal}
use Rattle.lattice.specs.declared.refusal.Refusal.TheVariants.{Device}
use Rattle.cow_tree.specs.Layout.{Stands}
use Rattle.cow_tree.specs.Stored.{Stored}
use Rattle.cow_tree.specs.Trees.{disk_of, root_of, has_begun, has_failed, IsAt}
use Rattle.cow_tree.specs.declared.tree.Tree.{Tree}

-- No call of the disk was made. The disk and the current root are unchanged; so is whether a call failed or a page was
-- written.
pub record MakesNoCall {D : Type 0} {g : Ghosts D} (old new : Tree D g) : Type 0 where
  pub disk : disk_of new ≡ disk_of old
  pub root : root_of new ≡ root_of old
  pub failed : has_failed new ≡ has_failed old
  pub begun : has_begun new ≡ has_begun old

-- What an answer shows, on any disk: after Device a call of the disk has failed, and the tree has failed.
pub record Returns {D T : Type 0} (g : Ghosts D) (old new : Tree D g) (result : Result T Refusal) : Type 0 where
  pub size : g.size (disk_of new) ≡ g.size (disk_of old)
  pub later : g.failures (disk_of old) ≤ g.failures (disk_of new)
  pub device : IsErrOf result Device → HasRisen (g.failures (disk_of old)) (g.failures (disk_of new))
  pub works : OnOk result (has_failed new ≡ false)
  pub fails : IsErrOf result Device → has_failed new ≡ true
  pub honest : g.honest (disk_of new) → g.honest (disk_of old)

-- The call read pages of the tree, and may have staged pages or dropped staged ones. The committed content stays, and a
-- stop at any moment leaves it.
pub record CommitsNothing {D T : Type 0} (g : Ghosts D) (old new : Tree D g) (result : Result T Refusal) : Type 0 where
  pub returns : Returns g old new result
  pub root : root_of new ≡ root_of old
  pub at : g.honest (disk_of new) → (s : Stored) → IsAt g old s → has_failed new ≡ false → IsAt g new s
  pub run : g.honest (disk_of new) → (s : Stored) → IsAt g old s → LeavesOnly g (disk_of old) (disk_of new) (λ image. Stands (g.size (disk_of old)) image s)
