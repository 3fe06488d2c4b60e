-- Kept planes dropped in memory, before a commit (defined by this product).
use Rattle.std.specs.Prelude.{◌≡◌, ◌≤◌, ◌+◌, ℕ, Bool, true, false, if◌then◌else◌, List, map, Contains, Option, None}
use Rattle.disk.specs.declared.disk.Disk.{Ghosts}
use Rattle.lattice.specs.Corners.{Corner}
use Rattle.lattice.specs.Mosaic.{Mosaic}
use Rattle.edits.specs.declared.command.Command.{Command}
use Rattle.edits.specs.Touched.{goes_stale}
use Rattle.cow_tree.specs.Stored.{KeptPlanes, StoredTile, Stored, stale_tile}
use Rattle.cow_tree.specs.Trees.{corners_of, sinks_of, records_due, staged_in, IsAt}
use Rattle.cow_tree.specs.Uncommitted.{MakesNoCall}
use Rattle.cow_tree.specs.declared.tree.Tree.{Tree}

-- the tile, made stale if its corner passes the test
abbrev pub staled_in : (Corner → Bool) → StoredTile → StoredTile
staled_in test t = if test t.corner then stale_tile t.corner t.heights else t

abbrev pub staled : (Corner → Bool) → List StoredTile → List StoredTile
staled test tiles = map (staled_in test) tiles

-- `makes` has changed the staged tiles, with at most this many records to write. Nothing else has changed, and no call
-- of the disk was made.
pub record ChangesTiles {D : Type 0} (g : Ghosts D) (makes : List StoredTile → List StoredTile) (records : ℕ) (old new : Tree D g) : Type 0 where
  pub no_call : MakesNoCall old new
  pub corners : corners_of new ≡ corners_of old
  pub sinks : sinks_of new ≡ sinks_of old
  pub due : records_due new ≤ records_due old + records
  pub staged : staged_in g new ≡ makes (staged_in g old)
  pub at : (s : Stored) → IsAt g old s → IsAt g new s

-- The tiles whose corners pass the test have lost their kept planes.
abbrev pub Stales : {D : Type 0} (g : Ghosts D) → (Corner → Bool) → Tree D g → Tree D g → Type 0
Stales g test old new = ChangesTiles g (staled test) 0 old new

-- Tiles that the command doesn't make stale keep their planes. The others keep none.
pub record KeepFresh (m : Mosaic) (command : Command) (was now : List StoredTile) : Type 0 where
  pub fresh : (t : StoredTile) → Contains now t → goes_stale m command t.corner ≡ false
      → (u : StoredTile) × (Contains was u × ((u.corner ≡ t.corner) × (u.kept ≡ t.kept)))
  pub stale : (t : StoredTile) → Contains now t → goes_stale m command t.corner ≡ true → t.kept ≡ None

-- the corner of a tile, and the planes that it keeps
abbrev pub keeper : StoredTile → Corner × Option KeptPlanes
keeper t = (t.corner, t.kept)

abbrev pub keepers : List StoredTile → List (Corner × Option KeptPlanes)
keepers tiles = map keeper tiles
