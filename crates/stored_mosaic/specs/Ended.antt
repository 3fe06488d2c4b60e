-- How a call that may commit ends, from the store's tree (defined by this product): a command, a step or an upgrade.
use Rattle.std.specs.Prelude.{◌≡◌, ◌≢◌, ◌⊎◌, ℕ, Bool, false, IsTrue, Option, Result, OnErr, IfOk, IfErr}
use Rattle.std.specs.Option.{is_none}
use Rattle.disk.specs.Disk.{Image}
use Rattle.disk.specs.Stops.{LeavesOnly}
use Rattle.disk.specs.declared.disk.Disk.{Ghosts}
use Rattle.lattice.specs.Corners.{Corner}
use Rattle.lattice.specs.Mosaic.{Mosaic}
use Rattle.lattice.specs.declared.refusal.Refusal.{Refusal}
use Rattle.lattice.specs.declared.refusal.Refusal.TheVariants.{Device, Failed}
use Rattle.page_codec.specs.Formats.{number_of}
use Rattle.page_codec.specs.Roots.{RootValue}
use Rattle.edits.specs.declared.command.Command.{Command}
use Rattle.engine.specs.Engines.{answered}
use Rattle.engine.specs.Events.{Happens}
use Rattle.engine.specs.State.{Contents, State}
use Rattle.engine.specs.Told.{Known, Knows, may_refuse}
use Rattle.engine.specs.declared.event.Event.{Event}
use Rattle.engine.specs.declared.event.Event.TheVariants as ask
use Rattle.engine.specs.declared.event.Reply.{Reply}
use Rattle.engine.specs.declared.event.Reply.TheVariants as reply
use Rattle.cow_tree.specs.Trees.{disk_of, root_of, has_failed}
use Rattle.cow_tree.specs.Uncommitted.{Returns}
use Rattle.cow_tree.specs.declared.tree.Tree.{Tree}
use Rattle.stored_mosaic.specs.Standing.{StandsFor}
use Rattle.stored_mosaic.specs.States.{StandsForState}
use Rattle.stored_mosaic.specs.TreeStates.{IsInState}

-- An image of the tree's disk stores these contents, with the tree's side and capacity.
abbrev pub HasContents : {D : Type 0} (g : Ghosts D) → Tree D g → Contents → Image → Type 0
HasContents g tree c image = StandsFor (g.size (disk_of tree)) (root_of tree).side (root_of tree).capacity image c

-- An image of the tree's disk stores the contents of the first state, or is one that the second state allows.
abbrev pub LeavesOr : {D : Type 0} (g : Ghosts D) → Tree D g → State → State → Image → Type 0
LeavesOr g tree s t image = HasContents g tree s.contents image ⊎ StandsForState (g.size (disk_of tree)) (root_of tree).side (root_of tree).capacity image t

-- What such a call may answer: its refusals on any disk, the answers that write nothing, the root known after it, and
-- in which states each answer is right, with the states afterwards.
pub record Ending (T : Type 0) : Type 1 where
  pub may_refuse : Refusal → Bool
  pub is_idle : T → Bool
  pub Knows : RootValue → T → RootValue → Type 0
  pub Happens : State → Result T Refusal → State → Type 0

-- The call was made with this answer. From each state that it may have started in, by the first test, it leads to one
-- that passes the second test.
pub record EndsAt {D T : Type 0} (g : Ghosts D) (ending : Ending T) (result : Result T Refusal) (old new : Tree D g) (Was Is : State → Type 0) : Type 0 where
  pub returns : Returns g old new result
  pub side : (root_of new).side ≡ (root_of old).side
  pub capacity : (root_of new).capacity ≡ (root_of old).capacity
  pub causes : IfErr result (λ r. IsTrue (ending.may_refuse r))
  -- The call fails the tree exactly if its answer is Device. It answers Failed only if the tree had failed before.
  pub quiet : has_failed old ≡ false → IfErr result (λ r. r ≢ Device → (r ≢ Failed) × (has_failed new ≡ false))
  -- the root known after the call, on any disk
  pub known : IfOk result (λ answer. ending.Knows (root_of old) answer (root_of new))
  pub last_known : OnErr result (root_of new ≡ root_of old)
  -- An idle call, or one refused with another refusal than Device, writes nothing.
  pub unwritten : IfErr result (λ r. r ≢ Device → g.writes (disk_of new) ≡ g.writes (disk_of old))
  pub idle : IfOk result (λ answer. IsTrue (ending.is_idle answer) → g.writes (disk_of new) ≡ g.writes (disk_of old))
  -- the answer and the state after it; a stop at any moment leaves the old contents, or an image that the new state
  -- allows
  pub outcome : g.honest (disk_of new) → (s : State) → Was s
      → (t : State) × (Is t × ending.Happens s result t × (s.failed ≡ false → LeavesOnly g (disk_of old) (disk_of new) (LeavesOr g old s t)))

-- The call of a tree ended with this result.
abbrev pub HasEnded : {D T : Type 0} (g : Ghosts D) → Ending T → Result T Refusal → Tree D g → Tree D g → Type 0
HasEnded g ending result old new = EndsAt g ending result old new (λ s. IsInState g old s) (λ t. IsInState g new t)

-- ---- the events that may commit

-- what a store has in memory, from its root
abbrev pub known_by : RootValue → Known
known_by root = record { version = number_of root.version; count = root.count; number = root.number }

-- how the call of an event may end, for this capacity
abbrev pub event_ending : {T : Type 0} → ℕ → Event → (T → Reply) → (T → Bool) → Ending T
event_ending capacity event tell is_idle = record {
  may_refuse = may_refuse event;
  is_idle = is_idle;
  Knows = λ was x root. Knows (known_by was) event (tell x) (known_by root);
  Happens = λ s result t. Happens capacity s event (answered tell result) t;
}

-- a command
abbrev pub command_ending : ℕ → Command → Ending ℕ
command_ending capacity command = event_ending capacity (ask.Do command) reply.Done (λ count. false)

-- a step, which is idle if it names no tile
abbrev pub step_ending : ℕ → Ending (Option Corner)
step_ending capacity = event_ending capacity ask.Step reply.Stepped is_none

-- A tree did the command, with this result.
abbrev pub IsApplied : {D : Type 0} (g : Ghosts D) → Command → Result ℕ Refusal → Tree D g → Tree D g → Type 0
IsApplied g command result old new = HasEnded g (command_ending (root_of old).capacity command) result old new

-- A tree made the step, with this result. The state afterwards is known if the premise is true for the mosaic.
abbrev pub IsStepped : {D : Type 0} (g : Ghosts D) → (Mosaic → Type 0) → Result (Option Corner) Refusal → Tree D g → Tree D g → Type 0
IsStepped g P result old new = EndsAt g (step_ending (root_of old).capacity) result old new (λ s. IsInState g old s × P s.contents.mosaic) (λ t. IsInState g new t)
