-- What a store says of its root that another program may have written over (defined by this product).
use Rattle.std.specs.Prelude.{◌≡◌, ◌⊎◌, false, true, Bool, Result, Ok, OnOk, IfOk, IfErr}
use Rattle.disk.specs.Disk.{Image}
use Rattle.disk.specs.declared.disk.Disk.{Ghosts}
use Rattle.lattice.specs.declared.refusal.Refusal.{Refusal}
use Rattle.lattice.specs.declared.refusal.Refusal.TheVariants.{Device, Failed}
use Rattle.page_codec.specs.Roots.{RootValue}
use Rattle.engine.specs.State.{State}
use Rattle.store.specs.StoreQueries.{Queries}
use Rattle.store.specs.Stores.{IsAt, disk_of, root_of, has_failed}
use Rattle.store.specs.declared.store.Store.{Store}

-- The store was asked whether this holds of its root by what the slots of the roots read as now. On an honest disk, of which the store
-- knew the current root, it does.
pub record Tests {D : Type 0} (g : Ghosts D) (Says : RootValue → Image → Type 0) (old new : Store D g) (result : Result Bool Refusal) : Type 0 where
  pub reads : Queries g old new result
  pub refused : IfErr result (λ r. (r ≡ Device) ⊎ (r ≡ Failed))
  pub works : OnOk result (has_failed new ≡ false)
  pub yes : g.honest (disk_of new) → (s : State) → IsAt g old s → IfOk result (λ yes. yes ≡ true)
  pub state : g.honest (disk_of new) → (s : State) → IsAt g old s → OnOk result (IsAt g new s)
  pub says : g.honest (disk_of new) → result ≡ Ok true → Says (root_of old) (g.seen (disk_of old))
