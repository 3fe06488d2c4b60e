-- The state of a store from its tree and its cache of water, and how a question about water changes both (defined by
-- this product).
use Rattle.std.specs.Prelude.{◌≡◌, false, Result}
use Rattle.disk.specs.declared.disk.Disk.{Ghosts}
use Rattle.lattice.specs.declared.refusal.Refusal.{Refusal}
use Rattle.engine.specs.State.{State}
use Rattle.cow_tree.specs.Trees.{disk_of, has_failed}
use Rattle.cow_tree.specs.declared.tree.Tree.{Tree}
use Rattle.cow_tree.specs.Clean.{IsClean}
use Rattle.drainage.specs.Between.{IsHeldOf}
use Rattle.drainage.specs.declared.drainage_cache.DrainageCache.{DrainageCache}
use Rattle.stored_mosaic.specs.Queried.{IsQueried}
use Rattle.stored_mosaic.specs.TreeStates.{IsInState}

-- A store with this tree and this cache is in this state.
pub record IsHolding {D : Type 0} (g : Ghosts D) (tree : Tree D g) (held : DrainageCache) (s : State) : Type 0 where
  pub in_state : IsInState g tree s
  -- The cache is right for the mosaic.
  pub right : IsHeldOf s.contents.mosaic held

-- A question only read the tree. On an honest disk, and if the premise is true, it had this answer.
pub record IsAskedOf {D T : Type 0} (g : Ghosts D) (premise : Type 0) (old new : Tree D g) (before held : DrainageCache) (result : Result T Refusal) (Answers : State → Result T Refusal → State → Type 0) : Type 0 where
  pub reads : IsQueried g old new result
  pub clean : has_failed new ≡ false → IsClean old → IsClean new
  pub outcome : premise → g.honest (disk_of new) → (s : State) → IsHolding g old before s → (t : State) × (IsHolding g new held t × Answers s result t)
