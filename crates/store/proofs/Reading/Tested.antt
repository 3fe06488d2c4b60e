-- What a test of the root leaves.
use Rattle.store.proofs.Prelude.{Bool, DrainageCache, Err, Ghosts, IsHeldOf, IsHolding, IsInState, IsQueried, Ok, OnOk, Refusal, Result, State, Tree, disk_of, false, has_failed, sym, true≢false, ◌∙◌, ◌≡◌}
use Rattle.cow_tree.specs.Reading.{Reads}
use Rattle.stored_mosaic.proofs.Reading.Querying.{queried_by_disk, still_at}

module _ {D : Type 0} (g : Ghosts D) (old new : Tree D g) (works : has_failed old ≡ false) where
  pub tested : (result : Result Bool Refusal) → Reads g old new result → IsQueried g old new result
  tested (Ok x) reads = queried_by_disk g old new works reads.keeps (Ok x) reads.device reads.not_failed tt (reads.only_device works)
  tested (Err r) reads = queried_by_disk g old new works reads.keeps (Err r) reads.device tt (λ still. true≢false (sym reads.failed ∙ still)) (reads.only_device works)

  pub still_held : (held : DrainageCache) (result : Result Bool Refusal) → Reads g old new result → g.honest (disk_of new) → (s : State) → IsHolding g old held s → OnOk result (IsHolding g new held s)
  still_held held (Ok x) reads honest s at = record { in_state = still_at g old new works reads.keeps honest s at.in_state reads.not_failed; right = at.right }
  still_held held (Err r) reads honest s at = tt
