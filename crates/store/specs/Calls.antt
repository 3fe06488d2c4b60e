-- Events that a store answers, one after another (defined by this product).
use Rattle.std.specs.Prelude.{◌≡◌, List}
use Rattle.disk.specs.declared.disk.Disk.{Ghosts}
use Rattle.engine.specs.Engines.{IsCall, IsRunOf, Keeps}
use Rattle.engine.specs.Runs.{last_of, Through}
use Rattle.engine.specs.State.{State}
use Rattle.engine.specs.declared.event.Event.{Event}
use Rattle.engine.specs.declared.event.Reply.{Reply}
use Rattle.store.specs.Stores.{disk_of, IsAt}
use Rattle.store.specs.StoreState.{members}
use Rattle.store.specs.declared.store.Store.{Store}

-- The store answered the events with these answers, and these are the stores after each: what is known on any disk, and
-- what on an honest one.
pub record HasRun {D : Type 0} (g : Ghosts D) (old : Store D g) (events : List Event) (answers : List Reply) (stores : List (Store D g)) : Type 0 where
  -- Each event was asked once, in order, and had this answer.
  pub answered : Through (IsCall (members g)) old events answers stores
  -- The answer is Device only if the disk failed, and a disk that is honest at the end was honest before.
  pub keeps : Keeps (members g) old answers (last_of old stores)
  -- The answers are right in each state that the store may have been in. A stop since an event leaves the state after
  -- it or a later one.
  pub states : g.honest (disk_of (last_of old stores)) → (s : State) → IsAt g old s → (states : List State) × IsRunOf (members g) old events answers stores s states

-- Answering these events leads from the old store to the new one.
abbrev pub Runs : {D : Type 0} (g : Ghosts D) → Store D g → Store D g → List Event → List Reply → Type 0
Runs g old new events answers = (stores : List (Store _ g)) × ((last_of old stores ≡ new) × HasRun g old events answers stores)
