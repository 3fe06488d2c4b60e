-- What an event may do to a store, and what its reply says about failures (defined by this product).
use Rattle.std.specs.Prelude.{◌≡◌, ◌⊎◌, ℕ, Bool, true, false, Some, Ok, Err}
use Rattle.lattice.specs.declared.refusal.Refusal.{Refusal}
use Rattle.lattice.specs.declared.refusal.Refusal.TheVariants.{Device, NoMemory, Failed}
use Rattle.water.specs.TileLevels.{AreTileLevels}
use Rattle.water.specs.Questions.{AreTileCounts, AreTileDirections}
use Rattle.engine.specs.Outcomes.{Applies, Elevates, Exports, TellsTile, Lists, ListsSinks, Informs, Fills, Directs, Traces, Sheds}
use Rattle.engine.specs.State.{Contents, State, working}
use Rattle.engine.specs.Steps.{Steps}
use Rattle.engine.specs.declared.event.Event.{Event}
use Rattle.engine.specs.declared.event.Event.TheVariants as ask
use Rattle.engine.specs.declared.event.Reply.{Reply}
use Rattle.engine.specs.declared.event.Reply.TheVariants as reply

-- A reopening leads to the last known contents, or to those of the commit in doubt.
abbrev pub Reopens : State → State → Type 0
Reopens s t = (t ≡ working s.contents) ⊎ ((doubted : Contents) × (s.doubt ≡ Some doubted) × (t ≡ working doubted))

-- A reopening refused with Device or NoMemory leaves the state, which has failed then. Any other refusal is wrong.
abbrev pub ReopensNot : State → Refusal → State → Type 0
ReopensNot s Device t = t ≡ record s { failed = true }
ReopensNot s NoMemory t = t ≡ record s { failed = true }
ReopensNot s r t = ⊥

-- In state s the event may have this reply and lead to state t. Any other reply is wrong.
abbrev pub Happens : ℕ → State → Event → Reply → State → Type 0
Happens capacity s (ask.Do command) (reply.Done count) t = Applies capacity s command (Ok count) t
Happens capacity s (ask.Do command) (reply.Refused r) t = Applies capacity s command (Err r) t
Happens capacity s (ask.Elevation p) (reply.Elevation height) t = Elevates s p (Ok height) t
Happens capacity s (ask.Elevation p) (reply.Refused r) t = Elevates s p (Err r) t
Happens capacity s (ask.Fill p) (reply.Fill level) t = Fills s p (Ok level) t
Happens capacity s (ask.Fill p) (reply.Refused r) t = Fills s p (Err r) t
Happens capacity s (ask.Direction p) (reply.Direction code) t = Directs s p (Ok code) t
Happens capacity s (ask.Direction p) (reply.Refused r) t = Directs s p (Err r) t
Happens capacity s (ask.Trace p) (reply.Trace path) t = Traces s p (Ok path.items) t
Happens capacity s (ask.Trace p) (reply.Refused r) t = Traces s p (Err r) t
Happens capacity s (ask.Watershed p) (reply.Watershed runs) t = Sheds s p (Ok runs.items) t
Happens capacity s (ask.Watershed p) (reply.Refused r) t = Sheds s p (Err r) t
Happens capacity s (ask.Export c) (reply.Export bytes) t = Exports s c (Ok bytes.items) t
Happens capacity s (ask.Export c) (reply.Refused r) t = Exports s c (Err r) t
Happens capacity s (ask.Levels c) (reply.Levels levels) t = TellsTile AreTileLevels s c (Ok levels.items) t
Happens capacity s (ask.Levels c) (reply.Refused r) t = TellsTile AreTileLevels s c (Err r) t
Happens capacity s (ask.Directions c) (reply.Directions codes) t = TellsTile AreTileDirections s c (Ok codes.items) t
Happens capacity s (ask.Directions c) (reply.Refused r) t = TellsTile AreTileDirections s c (Err r) t
Happens capacity s (ask.Upstream c) (reply.Upstream counts) t = TellsTile AreTileCounts s c (Ok counts.items) t
Happens capacity s (ask.Upstream c) (reply.Refused r) t = TellsTile AreTileCounts s c (Err r) t
Happens capacity s ask.Tiles (reply.Tiles corners) t = Lists s (Ok corners.items) t
Happens capacity s ask.Tiles (reply.Refused r) t = Lists s (Err r) t
Happens capacity s ask.Sinks (reply.Sinks points) t = ListsSinks s (Ok points.items) t
Happens capacity s ask.Sinks (reply.Refused r) t = ListsSinks s (Err r) t
Happens capacity s ask.Step (reply.Stepped tile) t = Steps s (Ok tile) t
Happens capacity s ask.Step (reply.Refused r) t = Steps s (Err r) t
Happens capacity s ask.Count (reply.Count count) t = (count ≡ s.contents.count) × (t ≡ s)
Happens capacity s ask.Info (reply.Info info) t = Informs capacity s (Ok info) t
Happens capacity s ask.Info (reply.Refused r) t = Informs capacity s (Err r) t
Happens capacity s ask.Reopen reply.Reopened t = Reopens s t
Happens capacity s ask.Reopen (reply.Refused r) t = ReopensNot s r t
Happens capacity s asked replied t = ⊥

-- the replies of a store that has failed: its count, the refusal Failed, or the result of a reopening
abbrev pub SaysFailed : Event → Reply → Type 0
SaysFailed ask.Count replied = (count : ℕ) × (replied ≡ reply.Count count)
SaysFailed ask.Reopen replied = Unit {0}
SaysFailed asked replied = replied ≡ reply.Refused Failed

-- whether the store has failed after an event with this reply, from whether it had before
abbrev pub fails_after : Bool → Event → Reply → Bool
fails_after failed ask.Reopen (reply.Refused r) = true
fails_after failed asked (reply.Refused Device) = true
fails_after failed asked reply.Reopened = false
fails_after failed asked replied = failed
