-- How a store's call that may commit ends (defined by this product).
use Rattle.std.specs.Prelude.{Result}
use Rattle.disk.specs.declared.disk.Disk.{Ghosts}
use Rattle.lattice.specs.declared.refusal.Refusal.{Refusal}
use Rattle.engine.specs.Engines.{answered}
use Rattle.cow_tree.specs.Trees.{disk_of, root_of}
use Rattle.store.specs.Stores.{IsAt}
use Rattle.store.specs.declared.store.Store.{Store}
use Rattle.stored_mosaic.specs.Ended.{Ending, EndsAt}
use Rattle.stored_mosaic.specs.Upgraded.{upgrade_ending}

-- A store made the call, with this result.
abbrev pub HasEndedAt : {D T : Type 0} (g : Ghosts D) → Ending T → Result T Refusal → Store D g → Store D g → Type 0
HasEndedAt g ending result old new = EndsAt g ending result old.tree new.tree (λ s. IsAt g old s) (λ t. IsAt g new t)

-- A store made the upgrade, with this result.
abbrev pub HasUpgraded : {D : Type 0} (g : Ghosts D) → Store D g → Store D g → Result (Unit {0}) Refusal → Type 0
HasUpgraded g old new result = HasEndedAt g (upgrade_ending (g.size (disk_of old.tree)) (root_of old.tree)) result old new
