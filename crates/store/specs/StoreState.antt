-- A store on a disk as an engine: its state, what a stop leaves, and what contracts see of it (defined by this
-- product).
use Rattle.std.specs.Prelude.{◌≡◌, ℕ, List, Contains}
use Rattle.disk.specs.Disk.{Image}
use Rattle.disk.specs.Stops.{LeavesOnly}
use Rattle.disk.specs.declared.disk.Disk.{Ghosts}
use Rattle.engine.specs.Engines.{Members}
use Rattle.engine.specs.State.{State}
use Rattle.stored_mosaic.specs.Ended.{known_by}
use Rattle.stored_mosaic.specs.States.{StandsForState}
use Rattle.store.specs.Stores.{IsAt, disk_of, root_of, side_of, capacity_of, has_failed}
use Rattle.store.specs.declared.store.Store.{Store}

-- The image stores the contents of one of the states, or those of its commit in doubt.
abbrev pub StandsForOne : (sectors side capacity : ℕ) → List State → Image → Type 0
StandsForOne sectors side capacity states image = (s : State) × Contains states s × StandsForState sectors side capacity image s

-- A stop at any moment of the run from `old` to `new` leaves an image that stores one of the states. The sizes by which
-- images are read don't change.
pub record LeavesStates {D : Type 0} (g : Ghosts D) (old new : Store D g) (states : List State) : Type 0 where
  pub size : g.size (disk_of new) ≡ g.size (disk_of old)
  pub side : side_of new ≡ side_of old
  pub capacity : capacity_of new ≡ capacity_of old
  pub run : LeavesOnly g (disk_of old) (disk_of new) (StandsForOne (g.size (disk_of old)) (side_of old) (capacity_of old) states)

-- the engine's ghosts for a store
abbrev pub members : {D : Type 0} (g : Ghosts D) → Members (Store D g)
members g = record {
  is_honest = λ store. g.honest (disk_of store);
  is_at = λ store s. IsAt g store s;
  leaves_only = λ first last states. LeavesStates g first last states;
  side_of = λ store. side_of store;
  capacity_of = λ store. capacity_of store;
  has_failed = λ store. has_failed store;
  failures = λ store. g.failures (disk_of store);
  writes = λ store. g.writes (disk_of store);
  sectors = λ store. g.size (disk_of store);
  known = λ store. known_by (root_of store);
}
