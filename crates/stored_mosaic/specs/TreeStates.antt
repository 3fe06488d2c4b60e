-- The state of a store, from its tree (defined by this product).
use Rattle.std.specs.Prelude.{◌≡◌, false, None}
use Rattle.disk.specs.Disk.{Image}
use Rattle.disk.specs.declared.disk.Disk.{Ghosts}
use Rattle.page_codec.specs.Formats.{number_of}
use Rattle.engine.specs.State.{State}
use Rattle.cow_tree.specs.Stored.{Stored}
use Rattle.cow_tree.specs.Trees.{disk_of, root_of, has_failed, sinks_of, staged_in, IsAt as IsTreeAt}
use Rattle.cow_tree.specs.declared.tree.Tree.{Tree}
use Rattle.derived.specs.Kept.{stale_in}
use Rattle.stored_mosaic.specs.Standing.{Holds}
use Rattle.stored_mosaic.specs.States.{StandsForState}

-- The tree stores the contents, nothing is staged, and no commit is in doubt.
pub record IsSound {D : Type 0} (g : Ghosts D) (t : Tree D g) (s : State) : Type 0 where
  pub stored : Stored
  pub tree : IsTreeAt g t stored
  pub holds : Holds (root_of t).side (root_of t).capacity stored s.contents
  pub nothing_staged : staged_in g t ≡ stored.tiles
  pub none_declared : sinks_of t ≡ stored.sinks
  pub no_doubt : s.doubt ≡ None

-- A store with this tree is in this state: its memory and the images of its disk agree with the state.
pub record IsInState {D : Type 0} (g : Ghosts D) (tree : Tree D g) (s : State) : Type 0 where
  pub images : (image : Image) → g.may (disk_of tree) image → StandsForState (g.size (disk_of tree)) (root_of tree).side (root_of tree).capacity image s
  pub side_is : s.contents.mosaic.side ≡ (root_of tree).side
  pub version : number_of (root_of tree).version ≡ s.contents.version
  pub count : (root_of tree).count ≡ s.contents.count
  pub number : (root_of tree).number ≡ s.contents.number
  pub stale : stale_in (root_of tree) ≡ s.contents.stale
  pub failed_is : has_failed tree ≡ s.failed
  pub sound : has_failed tree ≡ false → IsSound g tree s
