-- Calls of an engine, a store or a table, one after another (defined by this product).
use Rattle.std.specs.Prelude.{◌≡◌, ◌≢◌, ◌≤◌, ℕ, Bool, List, [], ◌∷◌, ◌++◌, Contains, Result, Ok, Err, Vec}
use Rattle.lattice.specs.declared.refusal.Refusal.{Refusal}
use Rattle.engine.specs.State.{State}
use Rattle.engine.specs.Events.{Happens}
use Rattle.engine.specs.Runs.{last_of, Through}
use Rattle.engine.specs.Told.{IsTold, IsCounted, failures_after, IsWritten, Known, Knows}
use Rattle.engine.specs.declared.event.Event.{Event}
use Rattle.engine.specs.declared.event.Reply.{Reply}
use Rattle.engine.specs.declared.event.Reply.TheVariants as reply

-- the reply for a call's result
abbrev pub answered : {T : Type 0} → (T → Reply) → Result T Refusal → Reply
answered of_value (Ok value) = of_value value
answered of_value (Err r) = reply.Refused r

-- a call's result, with a list in place of its vector
abbrev pub items_in : {X A : Type 0} → Result (Vec X A) Refusal → Result (List X) Refusal
items_in (Ok xs) = Ok xs.items
items_in (Err r) = Err r

-- the ghosts of an engine
pub record Members (E : Type 0) : Type 1 where
  -- The disk was honest in all calls so far.
  pub is_honest : E → Type 0
  pub is_at : E → State → Type 0
  -- A stop at any moment from the first engine to the second leaves the contents of one of these states, or those of
  -- its commit in doubt.
  pub leaves_only : E → E → List State → Type 0
  pub side_of : E → ℕ
  pub capacity_of : E → ℕ
  pub has_failed : E → Bool
  -- the number of failed calls of the disk, and of its writes
  pub failures : E → ℕ
  pub writes : E → ℕ
  -- the number of the disk's sectors, if there is a disk
  pub sectors : E → ℕ
  pub known : E → Known

module _ {E : Type 0} (of : Members E) where
  -- what is known if the old engine was asked this event, gave this answer, and became the new one
  pub record IsCall (old : E) (event : Event) (answer : Reply) (new : E) : Type 0 where
    -- on any disk: its side and capacity stay, unless it was reopened
    pub side : answer ≢ reply.Reopened → of.side_of new ≡ of.side_of old
    pub capacity : answer ≢ reply.Reopened → of.capacity_of new ≡ of.capacity_of old
    pub told : IsTold (of.has_failed old) event answer (of.has_failed new)
    pub failures : IsCounted (of.failures old) answer (of.failures new)
    pub sectors : of.sectors new ≡ of.sectors old
    pub writes : IsWritten (of.known old).version (of.side_of old) event answer (of.writes old) (of.writes new)
    pub known : Knows (of.known old) event answer (of.known new)
    -- No call makes a dishonest disk honest.
    pub honest : of.is_honest new → of.is_honest old
    -- on an honest disk: its side and capacity stay
    pub takes : of.is_honest new → (s : State) → of.is_at old s → (of.side_of new ≡ of.side_of old) × (of.capacity_of new ≡ of.capacity_of old)
    -- on an honest disk: the answer, the state after the call, and what a stop leaves at any moment
    pub happens : of.is_honest new → (s : State) → of.is_at old s
        → (t : State) × (of.is_at new t × Happens (of.capacity_of old) s event answer t × of.leaves_only old new (s ∷ t ∷ []))

  -- The laws of an engine, for the relation of its calls.
  pub record Laws (called : E → Event → Reply → E → Type 0) : Type 0 where
    pub is_call : (old new : E) (event : Event) (answer : Reply) → called old event answer new → IsCall old event answer new
    -- Without a call, a stop leaves what the engine's state allows.
    pub stays : (e : E) (s : State) → of.is_honest e → of.is_at e s → of.leaves_only e e (s ∷ [])
    -- one run followed by another
    pub in_turn : (first mid last : E) (states more : List State) → of.leaves_only first mid states → of.leaves_only mid last more → of.leaves_only first last (states ++ more)
    -- If a stop leaves one of some states, it leaves one of any longer list with these states.
    pub weaker : (first last : E) (states more : List State) → ((s : State) → Contains states s → Contains more s) → of.leaves_only first last states → of.leaves_only first last more

  -- Each engine is in its state.
  abbrev pub AreAt : List E → List State → Type 0
  AreAt [] [] = Unit {0}
  AreAt (engine ∷ engines) (s ∷ states) = of.is_at engine s × AreAt engines states
  AreAt _ _ = ⊥

  -- A stop since an engine leaves its state or a later one.
  abbrev pub LeaveLater : List E → E → List State → Type 0
  LeaveLater [] last [] = Unit {0}
  LeaveLater (engine ∷ engines) last (s ∷ states) = of.leaves_only engine last (s ∷ states) × LeaveLater engines last states
  LeaveLater _ last _ = ⊥

  -- These states are a run of the engines.
  pub record IsRunOf (old : E) (events : List Event) (answers : List Reply) (engines : List E) (s : State) (states : List State) : Type 0 where
    pub at : AreAt (old ∷ engines) (s ∷ states)
    pub run : Through (Happens (of.capacity_of old)) s events answers states
    pub later : LeaveLater (old ∷ engines) (last_of old engines) (s ∷ states)

  -- what a chain of calls leaves unchanged, on any disk
  pub record Keeps (old : E) (answers : List Reply) (new : E) : Type 0 where
    pub honest : of.is_honest new → of.is_honest old
    pub sectors : of.sectors new ≡ of.sectors old
    pub later : of.failures old ≤ of.failures new
    -- The answer Device comes only with a failure of the disk.
    pub device : failures_after (of.failures old) answers ≤ of.failures new

module _ {E : Type 0} (called : E → Event → Reply → E → Type 0) where
  -- Each event was asked once, in order, with this answer, and these are the engines after each.
  abbrev pub Chain : E → List Event → List Reply → List E → Type 0
  Chain old events answers engines = Through called old events answers engines

  -- the same, without the engines in between
  abbrev pub Calls : E → List Event → List Reply → E → Type 0
  Calls old events answers new = (engines : List E) × ((last_of old engines ≡ new) × Chain old events answers engines)
