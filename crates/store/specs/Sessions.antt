-- Sessions of a store, one after another. An opening begins each; it ends, is refused, or is stopped (a power cut) at
-- any moment (defined by this product).
use Rattle.std.specs.Prelude.{◌≡◌, ◌⊎◌, ◌≤◌, ℕ, Bool, true, false, List, [], ◌∷◌, ◌++◌, Result, Ok, IfOk, IfErr}
use Rattle.disk.specs.Disk.{Image, HasRisen}
use Rattle.disk.specs.Stops.{AddsNothing}
use Rattle.disk.specs.declared.disk.Disk.{Ghosts}
use Rattle.lattice.specs.declared.refusal.Refusal.{Refusal}
use Rattle.lattice.specs.declared.refusal.Refusal.TheVariants.{Device, NoMemory}
use Rattle.edits.specs.declared.command.Command.{Command}
use Rattle.engine.specs.Engines.{IsCall}
use Rattle.engine.specs.Events.{Happens}
use Rattle.engine.specs.State.{Contents, State, working}
use Rattle.engine.specs.Steps.{Upgrades}
use Rattle.engine.specs.declared.event.Event.{Event}
use Rattle.engine.specs.declared.event.Event.TheVariants as ask
use Rattle.engine.specs.declared.event.Reply.{Reply}
use Rattle.engine.specs.declared.event.Reply.TheVariants as reply
use Rattle.cow_tree.specs.Longer.{AgreesBelow}
use Rattle.cow_tree.specs.Trees.{MayRefuse}
use Rattle.roots.specs.declared.roots.NotOpened.{NotOpened}
use Rattle.store.specs.Accepted.{Since, none_asked, found_too, done_too, doubted_too, upgraded_too, KeepsUpgrade, AreAccepted, ComesBy}
use Rattle.stored_mosaic.specs.Queried.{CountsSeams}
use Rattle.store.specs.StoreQueries.{Queries}
use Rattle.stored_mosaic.specs.Standing.{StandsFor}
use Rattle.store.specs.StoreState.{members}
use Rattle.store.specs.Stores.{disk_of, side_of, capacity_of, has_failed, disk_after, IsAt}
use Rattle.store.specs.StoreEndings.{HasUpgraded}
use Rattle.store.specs.declared.store.Store.{Store}

-- A call of a store, with its answer: an event, the upgrade to the second version, or the count of seams.
pub data Call : Type 0 where
  Asked : (event : Event) → (answer : Reply) → Call
  Upgraded : (result : Result (Unit {0}) Refusal) → Call
  CountedSeams : (result : Result ℕ Refusal) → Call

-- what the caller knows after the call
abbrev pub known_by : Since → Call → Since
known_by since (Asked (ask.Do c) (reply.Done k)) = done_too since c
known_by since (Asked (ask.Do c) (reply.Refused Device)) = doubted_too since c
known_by since (Upgraded (Ok done)) = upgraded_too since
known_by since call = since

-- what the caller knows if the call was stopped before its answer
abbrev pub known_without : Since → Call → Since
known_without since (Asked (ask.Do c) answer) = doubted_too since c
known_without since call = since

-- In the first state the call may have its answer and lead to the second state, with or without room for the second
-- version.
abbrev pub CallHappens : ℕ → Bool → State → Call → State → Type 0
CallHappens capacity has_room s (Asked event answer) t = Happens capacity s event answer t
CallHappens capacity has_room s (Upgraded result) t = Upgrades has_room s result t
CallHappens capacity has_room s (CountedSeams result) t = CountsSeams s result t

-- The answer is one that the definitions allow for the mosaic after the commands found and done.
pub record IsAnswered (capacity : ℕ) (was : Contents) (found : List Command) (since : Since) (call : Call) : Type 0 where
  pub before : State
  pub after : State
  pub has_room : Bool
  pub comes_by : ComesBy capacity was (found ++ since.done) before.contents
  pub upgraded : KeepsUpgrade since before.contents
  pub happens : CallHappens capacity has_room before call after

module _ {D : Type 0} (g : Ghosts D) where
  -- Each image that the disk may have stores these contents.
  abbrev pub HoldsOnly : D → (side capacity : ℕ) → Contents → Type 0
  HoldsOnly disk side capacity c = (image : Image) → g.may disk image → StandsFor (g.size disk) side capacity image c

  -- Each image that the disk may have stores one of these two contents.
  abbrev pub HoldsEither : D → (side capacity : ℕ) → (a b : Contents) → Type 0
  HoldsEither disk side capacity a b = (image : Image) → g.may disk image → StandsFor (g.size disk) side capacity image a ⊎ StandsFor (g.size disk) side capacity image b

  -- What an opening promises, refused or not.
  pub record IsOpening (old : D) (opened : Result (Store D g) (NotOpened D)) : Type 0 where
    pub size : g.size (disk_after opened) ≡ g.size old
    pub writes : g.writes (disk_after opened) ≡ g.writes old
    pub later : g.failures old ≤ g.failures (disk_after opened)
    pub device : IfErr opened (λ e. e.refusal ≡ Device → HasRisen (g.failures old) (g.failures e.disk))
    pub nothing : g.honest (disk_after opened) → AddsNothing g old (disk_after opened)
    pub works : IfOk opened (λ store. has_failed store ≡ false)
    pub at : g.honest (disk_after opened) → (side capacity : ℕ) (a b : Contents) → HoldsEither old side capacity a b
        → IfOk opened (λ store. (side_of store ≡ side) × ((capacity_of store ≡ capacity) × (IsAt g store (working a) ⊎ IsAt g store (working b))))
    pub sure : g.honest (disk_after opened) → (side capacity : ℕ) (a b : Contents) → HoldsEither old side capacity a b
        → IfErr opened (λ e. (e.refusal ≡ Device) ⊎ (e.refusal ≡ NoMemory))
    pub refused : g.honest (disk_after opened) → IfErr opened (λ e. MayRefuse (g.size old) (g.seen old) e.refusal)

  -- The opening was refused because a call of the disk failed, or with NoMemory.
  abbrev pub IsRefusedWithCause : D → NotOpened D → Type 0
  IsRefusedWithCause old e = ((e.refusal ≡ Device) × HasRisen (g.failures old) (g.failures e.disk)) ⊎ (e.refusal ≡ NoMemory)

  -- The call was made on the first store, and led to the second.
  abbrev pub IsMade : Store D g → Call → Store D g → Type 0
  IsMade old (Asked event answer) new = IsCall (members g) old event answer new
  IsMade old (Upgraded result) new = HasUpgraded g old new result × (has_failed old ≡ true → disk_of new ≡ disk_of old)
  IsMade old (CountedSeams result) new =
      Queries g old new result × (g.honest (disk_of new) → (s : State) → IsAt g old s → (t : State) × (IsAt g new t × CountsSeams s result t))

  -- a call, and the store after it
  pub record Made : Type 0 where
    pub call : Call
    pub store : Store D g

  -- These calls were made, one after another.
  abbrev pub AreMade : Store D g → List Made → Type 0
  AreMade old [] = Unit {0}
  AreMade old (made ∷ more) = IsMade old made.call made.store × AreMade made.store more

  abbrev pub last_store : Store D g → List Made → Store D g
  last_store old [] = old
  last_store old (made ∷ more) = last_store made.store more

  -- The calls are these events with these answers.
  abbrev pub AreCallsOf : List Made → List Event → List Reply → Type 0
  AreCallsOf [] [] [] = Unit {0}
  AreCallsOf (made ∷ more) (event ∷ events) (answer ∷ answers) = (made.call ≡ Asked event answer) × AreCallsOf more events answers
  AreCallsOf _ events answers = ⊥

  -- The calls are these events with these answers, and lead from the first store to the second.
  abbrev pub MakesCallsOf : Store D g → Store D g → List Event → List Reply → Type 0
  MakesCallsOf old new events answers = (calls : List Made) × AreMade old calls × (last_store old calls ≡ new) × AreCallsOf calls events answers

  -- A session on a disk.
  pub data Session : Type 0 where
    -- The opening was refused, or the session was stopped during it.
    Unopened : (disk : D) → (opened : Result (Store D g) (NotOpened D)) → Session
    -- The disk was opened as this store, and the calls were made. Then the session ended, or was stopped between two
    -- calls.
    Ended : (disk : D) → (store : Store D g) → (calls : List Made) → Session
    -- The disk was opened as this store, and the calls were made. One more call was stopped before its answer.
    Stopped : (disk : D) → (store : Store D g) → (calls : List Made) → (last : Made) → Session

  abbrev pub IsSession : Session → Type 0
  IsSession (Unopened disk opened) = IsOpening disk opened
  IsSession (Ended disk store calls) = IsOpening disk (Ok store) × AreMade store calls
  IsSession (Stopped disk store calls last) = IsOpening disk (Ok store) × AreMade store calls × IsMade (last_store store calls) last.call last.store

  -- the disk that a session began with
  abbrev pub first_disk : Session → D
  first_disk (Unopened disk opened) = disk
  first_disk (Ended disk store calls) = disk
  first_disk (Stopped disk store calls last) = disk

  -- the disk after the session's last call, if that had not been stopped
  abbrev pub last_disk : Session → D
  last_disk (Unopened disk opened) = disk_after opened
  last_disk (Ended disk store calls) = disk_of (last_store store calls)
  last_disk (Stopped disk store calls last) = disk_of last.store

  -- an image that a session may leave: through a stop at any moment of the opening or of the last call, or after it
  abbrev pub MayLeave : Session → Image → Type 0
  MayLeave (Unopened disk opened) image = g.since (disk_after opened) (g.moment disk) image
  MayLeave (Ended disk store calls) image = g.may (disk_of (last_store store calls)) image
  MayLeave (Stopped disk store calls last) image = g.since (disk_of last.store) (g.moment (disk_of (last_store store calls))) image

  -- The disk has at least this many sectors, and the first of them are unchanged since the last session.
  pub record TakesOver (sectors : ℕ) (Left : Image → Type 0) (disk : D) : Type 0 where
    pub longer : sectors ≤ g.size disk
    pub holds : (image : Image) → g.may disk image → (left : Image) × Left left × AgreesBelow sectors left image

  -- The store has the mosaic after these commands, all whole and none refused, and the second version if an upgrade was
  -- answered Ok before.
  pub record IsAfter (side capacity : ℕ) (was : Contents) (commands : List Command) (since : Since) (store : Store D g) : Type 0 where
    pub contents : Contents
    pub comes_by : ComesBy capacity was commands contents
    pub upgraded : KeepsUpgrade since contents
    pub at : IsAt g store (working contents)
    pub same_side : side_of store ≡ side
    pub same_capacity : capacity_of store ≡ capacity

-- Sessions on disks of one type. Each session has its own ghosts, as a file has each time that it is opened.
module _ {I D : Type 0} (gs : I → Ghosts D) where
  -- a session with the ghosts of its disk
  abbrev pub Visit : Type 0
  Visit = (i : I) × Session (gs i)

  abbrev pub AreSessions : List Visit → Type 0
  AreSessions [] = Unit {0}
  AreSessions ((i, session) ∷ more) = IsSession (gs i) session × AreSessions more

  -- The sessions follow one another, each on an honest disk as the one before left it.
  abbrev pub InTurn : (sectors : ℕ) → (Image → Type 0) → List Visit → Type 0
  InTurn sectors Left [] = Unit {0}
  InTurn sectors Left ((i, session) ∷ more) =
      TakesOver (gs i) sectors Left (first_disk (gs i) session) × (gs i).honest (last_disk (gs i) session)
      × InTurn ((gs i).size (last_disk (gs i) session)) (MayLeave (gs i) session) more

  module _ (side capacity : ℕ) (was : Contents) where
    -- An opening finds all commands found before it, and then those accepted since. `Then` is true of all of them.
    abbrev pub FindsMore : (found : List Command) → Since → (i : I) → Store D (gs i) → (List Command → Type 0) → Type 0
    FindsMore found since i store Then =
        (late : List Command) × AreAccepted since late × IsAfter (gs i) side capacity was (found ++ late) since store × Then (found ++ late)

    -- A call that reopens the disk is an opening, too.
    abbrev pub FindsBy : (i : I) → Call → Store D (gs i) → (found : List Command) → Since → (List Command → Since → Type 0) → Type 0
    FindsBy i (Asked ask.Reopen reply.Reopened) store found since Then = FindsMore found since i store (λ now. Then now (found_too since))
    FindsBy i call store found since Then = Then found (known_by since call)

    abbrev pub EachFindsIn : (i : I) → List (Made (gs i)) → (found : List Command) → Since → (List Command → Since → Type 0) → Type 0
    EachFindsIn i [] found since Then = Then found since
    EachFindsIn i (made ∷ more) found since Then = IsAnswered capacity was found since made.call × FindsBy i made.call made.store found since (λ now known. EachFindsIn i more now known Then)

    -- Each opening finds more, or is refused because a call of the disk failed, or with NoMemory.
    abbrev pub EachFinds : (found : List Command) → Since → List Visit → Type 0
    EachFinds found since [] = Unit {0}
    EachFinds found since ((i, Unopened disk opened) ∷ more) = IfErr opened (IsRefusedWithCause (gs i) disk) × EachFinds found since more
    EachFinds found since ((i, Ended disk store calls) ∷ more) =
        FindsMore found since i store (λ now. EachFindsIn i calls now (found_too since) (λ found known. EachFinds found known more))
    EachFinds found since ((i, Stopped disk store calls last) ∷ more) =
        FindsMore found since i store (λ now. EachFindsIn i calls now (found_too since) (λ found known. EachFinds found (known_without known last.call) more))

  -- After any number of sessions on a disk with these contents, each opening finds the mosaic after the accepted
  -- commands. Later openings find all that it finds, as their first commands. What it doesn't find, no later one finds.
  abbrev pub SessionsCompose : Type 0
  SessionsCompose = (side capacity : ℕ) (was : Contents) (i : I) (start : D) (sessions : List Visit)
      → HoldsOnly (gs i) start side capacity was → AreSessions sessions → InTurn ((gs i).size start) ((gs i).may start) sessions
      → EachFinds side capacity was [] none_asked sessions
