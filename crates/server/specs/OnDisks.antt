-- What a subcommand does on a store's disk: its sessions with their calls, and what it writes about the answers
-- (defined by this product).
use Rattle.std.specs.Prelude.{◌≡◌, ◌⊎◌, ◌+◌, ◌*◌, ℕ, List, [], ◌∷◌, map, codes, ◌++◌, Option, Result, Ok, Err, OnOk, IfOk}
use Rattle.disk.specs.declared.disk.Disk.{Ghosts}
use Rattle.lattice.specs.Corners.{Corner}
use Rattle.lattice.specs.declared.refusal.Refusal.{Refusal}
use Rattle.lattice.specs.declared.refusal.Refusal.TheVariants.{Device, NoMemory}
use Rattle.edits.specs.declared.command.Command.TheVariants.{Import}
use Rattle.engine.specs.Engines.{answered}
use Rattle.engine.specs.State.{fresh}
use Rattle.engine.specs.declared.event.Event.TheVariants as ask
use Rattle.engine.specs.declared.event.Reply.TheVariants as reply
use Rattle.lines.specs.declared.language.Language.{Language}
use Rattle.page_codec.specs.Sizes.{sectors_asked}
use Rattle.page_codec.specs.declared.version.Version.TheVariants.{Two}
use Rattle.roots.specs.declared.roots.NotOpened.{NotOpened}
use Rattle.serving.specs.Outputs.{Stream}
use Rattle.serving.specs.Served.{ReadsNoFurther}
use Rattle.serving.specs.declared.session.ServeFault.{ServeFault}
use Rattle.store.specs.Formatted.{format_2, Formats}
use Rattle.store.specs.Sessions.{Call, Asked, Upgraded, CountedSeams, HoldsOnly, IsOpening, Made, AreMade, last_store, Session, Unopened, Ended}
use Rattle.store.specs.Stores.{disk_of, root_of, side_of, capacity_of}
use Rattle.store.specs.declared.store.Store.{Store}
use Rattle.server.specs.Endings.{EndsAnswering, EndsSession, Tells, TellsRefusal, count_line}
use Rattle.server.specs.Places.{Access, Reads, HasGrown, HasNotGrown}
use Rattle.server.specs.declared.places.TileFault.{TileFault}
use Rattle.server.specs.declared.places.TileFault.TheVariants as fault
use Rattle.server.specs.Replies.{IsReplied}
use Rattle.server.specs.Report.{IsReported}

-- how many bytes of a tile's file are read at most: those of a tile, and one more to detect a longer file
abbrev pub most_bytes : (side : ℕ) → ℕ
most_bytes side = 2 * (side * side) + 1

-- Ok or the refusal, without the count of commands
abbrev pub done_of : Result ℕ Refusal → Result (Unit {0}) Refusal
done_of (Ok k) = Ok tt
done_of (Err r) = Err r

module _ {D : Type 0} (g : Ghosts D) where
  -- the calls, without their answers
  abbrev pub calls_in : List (Made g) → List Call
  calls_in calls = map (λ (made : Made g). made.call) calls

  -- The opening was refused, and then the program ended as this says.
  abbrev pub IsClosed : (old left : D) → List (Session g) → (Refusal → Type 0) → Type 0
  IsClosed old left sessions Closed = (e : NotOpened D) × (sessions ≡ Unopened old (Err e) ∷ []) × IsOpening g old (Err e) × (e.disk ≡ left) × Closed e.refusal

  -- One session from the first disk to the second: its opening was refused, or it opened the store and made calls that
  -- meet this relation.
  abbrev pub InSession : (old left : D) → List (Session g) → (Refusal → Type 0) → (Store D g → List (Made g) → Type 0) → Type 0
  InSession old left sessions Closed Did =
      IsClosed old left sessions Closed
      ⊎ ((store : Store D g) × (calls : List (Made g)) × (sessions ≡ Ended old store calls ∷ []) × IsOpening g old (Ok store) × AreMade g store calls × (disk_of (last_store g store calls) ≡ left)
      × Did store calls)

  -- The session serves lines on the disk's store.
  abbrev pub ServesLines : Language → (old left : D) → List (Session g) → (before after : Option (List ℕ)) → Stream → Stream → ℕ → Type 0
  ServesLines language old left sessions before after written now status =
      InSession old left sessions (λ r. (after ≡ before) × TellsRefusal r written now status)
      (λ store calls. (result : Result (Unit {0}) ServeFault) × (mid : Stream) × IsReplied g language store calls before after written.contents mid.contents result
      × OnOk result (ReadsNoFurther language before after) × EndsSession result mid now status)

  -- The bytes of the tile's file are imported, or a line says why there are none.
  abbrev pub EndsImport : Corner → (tile : List ℕ) → Result (List ℕ) TileFault → List (Made g) → Stream → Stream → ℕ → Type 0
  EndsImport corner tile (Ok bytes) calls written now status =
      (result : Result ℕ Refusal) × (calls_in calls ≡ Asked (ask.Do (Import corner bytes)) (answered reply.Done result) ∷ []) × EndsAnswering count_line result written now status
  EndsImport corner tile (Err fault.Unreadable) calls written now status = (calls ≡ []) × Tells (codes "mosaic: cannot read ") tile written now status
  EndsImport corner tile (Err fault.NoMemory) calls written now status = (calls ≡ []) × TellsRefusal NoMemory written now status

  -- If the disk has a store, the tile's file is read, and its bytes are imported.
  abbrev pub ImportsTile : Corner → (tile : List ℕ) → List (Access D) → (old left : D) → List (Session g) → Stream → Stream → ℕ → Type 0
  ImportsTile corner tile accesses old left sessions written now status =
      InSession old left sessions (λ r. (accesses ≡ []) × TellsRefusal r written now status)
      (λ store calls. (given : Result (List ℕ) TileFault) × (accesses ≡ Reads tile (most_bytes (side_of store)) given ∷ []) × EndsImport corner tile given calls written now status)

  -- The store is upgraded, and its accepted commands are counted.
  abbrev pub UpgradesStore : (old left : D) → List (Session g) → Stream → Stream → ℕ → Type 0
  UpgradesStore old left sessions written now status =
      InSession old left sessions (λ r. TellsRefusal r written now status)
      (λ store calls. (result : Result ℕ Refusal) × (calls_in calls ≡ Upgraded (done_of result) ∷ []) × IfOk result (λ k. k ≡ (root_of (last_store g store calls)).count) × EndsAnswering count_line result written now status)

  -- The disk is lengthened to this many sectors, and its store is upgraded; or a call of the lengthening failed.
  abbrev pub RunsGrown : (sectors : ℕ) → (measured left : D) → List (Session g) → Stream → Stream → ℕ → Type 0
  RunsGrown sectors measured left sessions written now status =
      ((sessions ≡ []) × HasNotGrown g measured left × TellsRefusal Device written now status)
      ⊎ ((longer : D) × HasGrown g sectors measured longer × UpgradesStore longer left sessions written now status)

  -- A first session finds how many sectors the second version needs. It leaves the disk unchanged.
  abbrev pub GrowsAndUpgrades : (old left : D) → List (Session g) → Stream → Stream → ℕ → Type 0
  GrowsAndUpgrades old left sessions written now status =
      IsClosed old left sessions (λ r. TellsRefusal r written now status)
      ⊎ ((store : Store D g) × (more : List (Session g)) × (sessions ≡ Ended old store [] ∷ more) × IsOpening g old (Ok store)
      × RunsGrown (sectors_asked (format_2 (side_of store) (capacity_of store))) (disk_of store) left more written now status)

  -- The seams are counted, and the report is written.
  abbrev pub ChecksStore : (old left : D) → List (Session g) → Stream → Stream → ℕ → Type 0
  ChecksStore old left sessions written now status =
      InSession old left sessions (λ r. TellsRefusal r written now status)
      (λ store calls. (result : Result (List ℕ) Refusal) × (seams : Result ℕ Refusal) × (calls_in calls ≡ CountedSeams seams ∷ []) × IsReported g (last_store g store calls) seams result
      × EndsAnswering (λ text. text) result written now status)

  -- ---- making a store

  pub record HasFormatted (old new : D) (side capacity : ℕ) (result : Result (Unit {0}) Refusal) : Type 0 where
    pub formats : Formats g Two side capacity old new result
    pub formatted : g.honest new → OnOk result (HoldsOnly g new side capacity (fresh side))

  -- The disk becomes a store without tiles.
  abbrev pub MakesStore : (side capacity : ℕ) → D → D → Stream → Stream → ℕ → Type 0
  MakesStore side capacity old new written now status =
      (result : Result (Unit {0}) Refusal) × HasFormatted old new side capacity result × EndsAnswering (λ _. count_line 0) result written now status
