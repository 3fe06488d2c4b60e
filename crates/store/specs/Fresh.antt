-- A tile that isn't stale (defined by this product).
use Rattle.std.specs.Prelude.{◌≡◌}
use Rattle.disk.specs.declared.disk.Disk.{Ghosts}
use Rattle.lattice.specs.Corners.{Corner}
use Rattle.lattice.specs.Mosaic.{Mosaic}
use Rattle.cow_tree.specs.Stored.{Stored}
use Rattle.cow_tree.specs.Trees.{IsAt as IsTreeAt}
use Rattle.derived.specs.Kept.{IsFresh, mosaic_stored}
use Rattle.store.specs.declared.store.Store.{Store}

-- The store's tree has this mosaic, and the corner's tile keeps a valid labelling of its block in it.
pub record KeepsFresh {D : Type 0} (g : Ghosts D) (store : Store D g) (m : Mosaic) (c : Corner) : Type 0 where
  pub stored : Stored
  pub at : IsTreeAt g store.tree stored
  pub mosaic : mosaic_stored stored ≡ m
  pub fresh : IsFresh stored c
