-- Kept planes after any events (defined by this product).
use Rattle.std.specs.Prelude.{◌≡◌, ◌⊎◌, ℕ, List, Some}
use Rattle.disk.specs.Disk.{Image}
use Rattle.disk.specs.declared.disk.Disk.{Ghosts}
use Rattle.catalogue.specs.Tiles.{corners_of}
use Rattle.engine.specs.Events.{Happens}
use Rattle.engine.specs.Runs.{last_of, Through}
use Rattle.engine.specs.State.{Contents, State}
use Rattle.engine.specs.declared.event.Event.{Event}
use Rattle.engine.specs.declared.event.Reply.{Reply}
use Rattle.cow_tree.specs.Layout.{Stands}
use Rattle.cow_tree.specs.Stored.{Stored, corners_of_stored}
use Rattle.store.specs.Calls.{Runs}
use Rattle.derived.specs.Kept.{KeepRight, stale_corners}
use Rattle.store.specs.Stores.{disk_of, capacity_of, IsAt}
use Rattle.store.specs.declared.store.Store.{Store}

-- This image stores the tiles of these contents. Each kept pair of levels and labels is a valid labelling of its tile's
-- block in their mosaic, and the stale tiles are those without such a pair.
pub record KeepsPlanesOf (sectors : ℕ) (c : Contents) (image : Image) : Type 0 where
  pub stored : Stored
  pub stands : Stands sectors image stored
  pub tiles : corners_of_stored stored.tiles ≡ corners_of c.mosaic
  pub kept : KeepRight c.mosaic stored.tiles
  pub stale : c.stale ≡ stale_corners stored.tiles

-- This image stores the tiles of the state's contents, or of its commit in doubt, and their kept planes are right.
abbrev pub KeepsPlanes : (sectors : ℕ) → State → Image → Type 0
KeepsPlanes sectors s image = KeepsPlanesOf sectors s.contents image ⊎ ((doubted : Contents) × (s.doubt ≡ Some doubted) × KeepsPlanesOf sectors doubted image)

-- After any events on an honest disk, the store is in the last state of a run of them. Every image that a stop may then
-- leave has only right kept planes.
abbrev pub PlanesStayRight : {D : Type 0} → Ghosts D → Type 0
PlanesStayRight g = (old new : Store _ g) (events : List Event) (answers : List Reply) (s : State)
    → Runs g old new events answers → g.honest (disk_of new) → IsAt g old s
    → (states : List State) × Through (Happens (capacity_of old)) s events answers states × IsAt g new (last_of s states)
    × ((image : Image) → g.may (disk_of new) image → KeepsPlanes (g.size (disk_of new)) (last_of s states) image)
