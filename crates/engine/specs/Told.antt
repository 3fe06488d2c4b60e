-- What the answer to an event shows on any disk, honest or not (defined by this product).
use Rattle.std.specs.Prelude.{◌≡◌, ◌≢◌, ◌≤◌, ◌+◌, ◌*◌, ℕ, min, length, Bool, true, false, IsTrue, if◌then◌else◌, nat_eq, List, [], ◌∷◌, Some}
use Rattle.lattice.specs.declared.refusal.Refusal.{Refusal}
use Rattle.lattice.specs.declared.refusal.Refusal.TheVariants.{NoTile, Outside, Void, Device, NoMemory, Failed, Damaged, Worn, NotAStore, Version, TooSmall}
use Rattle.catalogue.specs.Reading.{HasRisen}
use Rattle.edits.specs.declared.command.Command.{Command}
use Rattle.edits.specs.declared.command.Command.TheVariants.{Burn, Wall, Sink, Unsink}
use Rattle.edits.specs.Plans.{may_end}
use Rattle.page_codec.specs.Sizes.{pages_of, index_pages_by}
use Rattle.page_codec.specs.declared.version.Version.TheVariants.{One, Two}
use Rattle.engine.specs.Events.{SaysFailed, fails_after}
use Rattle.engine.specs.declared.event.Event.{Event}
use Rattle.engine.specs.declared.event.Event.TheVariants as ask
use Rattle.engine.specs.declared.event.Reply.{Reply}
use Rattle.engine.specs.declared.event.Reply.TheVariants as reply

-- The refusal is that of a read of the disk.
abbrev pub is_of_read : Refusal → Bool
is_of_read Device = true
is_of_read Failed = true
is_of_read Damaged = true
is_of_read r = false

-- the refusals of a command: those of its tests, those of a read, NoMemory and Worn
abbrev pub may_refuse_command : Command → Refusal → Bool
may_refuse_command c Worn = true
may_refuse_command c r = may_end c r

-- the refusals of a question about water at a point
abbrev pub may_refuse_question : Refusal → Bool
may_refuse_question Outside = true
may_refuse_question Void = true
may_refuse_question NoMemory = true
may_refuse_question r = is_of_read r

-- the refusals of a question about a tile
abbrev pub may_refuse_tile : Refusal → Bool
may_refuse_tile NoTile = true
may_refuse_tile NoMemory = true
may_refuse_tile r = is_of_read r

-- the refusals of a list from memory
abbrev pub may_refuse_list : Refusal → Bool
may_refuse_list NoMemory = true
may_refuse_list Failed = true
may_refuse_list r = false

-- the refusals of a step: those of a read, NoMemory and Worn
abbrev pub may_refuse_step : Refusal → Bool
may_refuse_step NoMemory = true
may_refuse_step Worn = true
may_refuse_step r = is_of_read r

abbrev pub may_refuse_reopening : Refusal → Bool
may_refuse_reopening Device = true
may_refuse_reopening NoMemory = true
may_refuse_reopening NotAStore = true
may_refuse_reopening Version = true
may_refuse_reopening Damaged = true
may_refuse_reopening TooSmall = true
may_refuse_reopening r = false

abbrev pub may_refuse : Event → Refusal → Bool
may_refuse (ask.Do c) r = may_refuse_command c r
may_refuse (ask.Elevation p) r = is_of_read r
may_refuse (ask.Fill p) r = may_refuse_question r
may_refuse (ask.Direction p) r = may_refuse_question r
may_refuse (ask.Trace p) r = may_refuse_question r
may_refuse (ask.Watershed p) r = may_refuse_question r
may_refuse (ask.Export c) r = may_refuse_tile r
may_refuse (ask.Levels c) r = may_refuse_tile r
may_refuse (ask.Directions c) r = may_refuse_tile r
may_refuse (ask.Upstream c) r = may_refuse_tile r
may_refuse ask.Tiles r = may_refuse_list r
may_refuse ask.Sinks r = may_refuse_list r
may_refuse ask.Step r = may_refuse_step r
may_refuse ask.Count r = false
may_refuse ask.Info r = may_refuse_list r
may_refuse ask.Reopen r = may_refuse_reopening r

-- The answer is one for this event.
abbrev pub Matches : Event → Reply → Type 0
Matches event (reply.Refused r) = IsTrue (may_refuse event r)
Matches (ask.Do c) (reply.Done k) = Unit {0}
Matches (ask.Elevation p) (reply.Elevation height) = Unit {0}
Matches (ask.Fill p) (reply.Fill level) = Unit {0}
Matches (ask.Direction p) (reply.Direction code) = Unit {0}
Matches (ask.Trace p) (reply.Trace path) = Unit {0}
Matches (ask.Watershed p) (reply.Watershed runs) = Unit {0}
Matches (ask.Export c) (reply.Export bytes) = Unit {0}
Matches (ask.Levels c) (reply.Levels levels) = Unit {0}
Matches (ask.Directions c) (reply.Directions codes) = Unit {0}
Matches (ask.Upstream c) (reply.Upstream counts) = Unit {0}
Matches ask.Tiles (reply.Tiles corners) = Unit {0}
Matches ask.Sinks (reply.Sinks points) = Unit {0}
Matches ask.Step (reply.Stepped tile) = Unit {0}
Matches ask.Count (reply.Count k) = Unit {0}
Matches ask.Info (reply.Info info) = Unit {0}
Matches ask.Reopen reply.Reopened = Unit {0}
Matches event answer = ⊥

-- what an answer shows about whether the engine had failed before the event, and has failed after it
pub record IsTold (before : Bool) (event : Event) (answer : Reply) (after : Bool) : Type 0 where
  pub matches : Matches event answer
  -- An engine that has failed says so, and no other does.
  pub says : IsTrue before → SaysFailed event answer
  pub had_failed : answer ≡ reply.Refused Failed → IsTrue before
  -- The engine fails exactly if it answers Device.
  pub after_is : after ≡ fails_after before event answer

-- The count of failed calls of the disk before and after: the answer is Device only if it has risen.
pub record IsCounted (before : ℕ) (answer : Reply) (now : ℕ) : Type 0 where
  pub later : before ≤ now
  pub device : answer ≡ reply.Refused Device → HasRisen before now

-- the count plus one, at most the largest number
abbrev pub counted : ℕ → ℕ
counted n = min (n + 1) 18446744073709551615

-- the least count of failures after these answers: each answer Device adds one
abbrev pub failures_after : ℕ → List Reply → ℕ
failures_after before [] = before
failures_after before (reply.Refused Device ∷ replies) = failures_after (counted before) replies
failures_after before (replied ∷ replies) = failures_after before replies

-- the most writes for a point of a burn or a wall: four pages and four records, and in the second version four index
-- pages
abbrev pub writes_a_point : ℕ → ℕ
writes_a_point version = if nat_eq version 1 then 8 else 12

-- the most writes for a step: for each of two planes its pages and its record, and in the second version its index
-- pages
abbrev pub writes_a_step : (version side : ℕ) → ℕ
writes_a_step version side = 2 * (1 + index_pages_by (if nat_eq version 1 then One else Two) (pages_of side) + pages_of side)

-- The most writes of an event, in this version and for tiles of this side. A commit's other three are the root and its
-- two gates; a sink needs only these. There is no bound for a command that may set any number of samples.
abbrev pub WritesFew : (version side : ℕ) → Event → ℕ → ℕ → Type 0
WritesFew version side (ask.Do (Burn depth points)) before now = now ≤ before + (writes_a_point version * length points.items + 3)
WritesFew version side (ask.Do (Wall height points)) before now = now ≤ before + (writes_a_point version * length points.items + 3)
WritesFew version side (ask.Do (Sink p)) before now = now ≤ before + 3
WritesFew version side (ask.Do (Unsink p)) before now = now ≤ before + 3
WritesFew version side (ask.Do command) before now = Unit {0}
WritesFew version side ask.Step before now = now ≤ before + (writes_a_step version side + 3)
WritesFew version side asked before now = now ≡ before

-- the number of writes of an event with this answer
pub record IsWritten (version side : ℕ) (event : Event) (answer : Reply) (before now : ℕ) : Type 0 where
  pub few : WritesFew version side event before now
  -- A refusal other than Device writes nothing.
  pub refused : (r : Refusal) → answer ≡ reply.Refused r → r ≢ Device → now ≡ before

-- what an engine has in memory: the version of its format, and its counts of accepted commands and of commits
pub record Known : Type 0 where
  pub version : ℕ
  pub count : ℕ
  pub number : ℕ

-- An accepted command adds one to both counts, a step only to the commits. A reopening may find other counts. No other
-- event changes them.
abbrev pub Knows : Known → Event → Reply → Known → Type 0
Knows before (ask.Do command) (reply.Done k) after = (k ≡ before.count + 1) × (after ≡ record before { count = k; number = before.number + 1 })
Knows before ask.Count (reply.Count k) after = (k ≡ before.count) × (after ≡ before)
Knows before ask.Step (reply.Stepped (Some c)) after = after ≡ record before { number = before.number + 1 }
Knows before ask.Reopen reply.Reopened after = Unit {0}
Knows before asked replied after = after ≡ before
