-- The staged changes of a command, before its commit (defined by this product).
use Rattle.std.specs.Prelude.{◌≡◌, ◌+◌, ◌⊎◌, ℕ, false, Result, Ok, OnOk, IfErr}
use Rattle.disk.specs.declared.disk.Disk.{Ghosts}
use Rattle.lattice.specs.Mosaic.{Mosaic}
use Rattle.lattice.specs.declared.refusal.Refusal.{Refusal}
use Rattle.lattice.specs.declared.refusal.Refusal.TheVariants.{Device, NoMemory}
use Rattle.edits.specs.declared.command.Command.{Command}
use Rattle.edits.specs.Effect.{effect}
use Rattle.engine.specs.State.{State, made_by}
use Rattle.cow_tree.specs.Stored.{Stored, next_commit}
use Rattle.cow_tree.specs.Trees.{disk_of, root_of, has_failed, sinks_of, staged_in}
use Rattle.cow_tree.specs.declared.tree.Tree.{Tree}
use Rattle.cow_tree.specs.Uncommitted.{CommitsNothing}
use Rattle.stored_mosaic.specs.Ended.{IsApplied}
use Rattle.stored_mosaic.specs.Standing.{Holds}
use Rattle.stored_mosaic.specs.TreeStates.{IsInState}

-- The next commit would store the contents after the command.
pub record WillHold {D : Type 0} (g : Ghosts D) (old mid : Tree D g) (command : Command) (s : State) (stored : Stored) : Type 0 where
  pub made : Mosaic
  pub makes : effect (root_of old).capacity s.contents.mosaic command ≡ Ok made
  pub will : Holds (root_of old).side (root_of old).capacity (next_commit stored (sinks_of mid) (staged_in g mid) (s.contents.count + 1)) (made_by s.contents command made)

-- The command is staged on the old tree's contents; or staging was refused with Device, or with NoMemory before any
-- write.
pub record IsStaged {D : Type 0} (g : Ghosts D) (old mid : Tree D g) (command : Command) (staged : Result (Unit {0}) Refusal) : Type 0 where
  pub working : has_failed old ≡ false
  pub uncommitted : CommitsNothing g old mid staged
  pub refused : IfErr staged (λ r. (r ≡ Device) ⊎ ((r ≡ NoMemory) × (has_failed mid ≡ false) × (g.writes (disk_of mid) ≡ g.writes (disk_of old))))
  pub next : g.honest (disk_of mid) → (s : State) → (at : IsInState g old s) → OnOk staged (WillHold g old mid command s (at.sound working).stored)

-- Any command staged since any tree is then done.
abbrev pub EndsCommand : {D : Type 0} (g : Ghosts D) → Tree D g → Tree D g → Result (Unit {0}) Refusal → Result ℕ Refusal → Type 0
EndsCommand g mid new staged result = (old : Tree _ g) (command : Command) → IsStaged g old mid command staged → IsApplied g command result old new
