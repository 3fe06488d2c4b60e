-- How a query changes a store.
use Rattle.std.specs.Prelude.{◌≡◌, true, Result}
use Rattle.disk.specs.Stops.{AddsNothing}
use Rattle.disk.specs.declared.disk.Disk.{Ghosts}
use Rattle.lattice.specs.declared.refusal.Refusal.{Refusal}
use Rattle.cow_tree.specs.Trees.{disk_of, root_of, has_failed}
use Rattle.store.specs.declared.store.Store.{Store}
use Rattle.stored_mosaic.specs.Queried.{IsQueried}

-- A store made the query, with this result.
abbrev pub Queries : {D T : Type 0} (g : Ghosts D) → Store D g → Store D g → Result T Refusal → Type 0
Queries g old new result = IsQueried g old.tree new.tree result

-- What every question promises, beside what every call does: the known state stays, a failed store makes no call of the
-- disk, and a stop at any moment leaves no other image.
pub record OnlyReads {D : Type 0} (g : Ghosts D) (old new : Store D g) : Type 0 where
  pub root : root_of new.tree ≡ root_of old.tree
  pub failed : has_failed old.tree ≡ true → disk_of new.tree ≡ disk_of old.tree
  pub nothing : g.honest (disk_of new.tree) → AddsNothing g (disk_of old.tree) (disk_of new.tree)
