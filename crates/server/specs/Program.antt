-- What the program does for its words: which files it asks for, what it does to a store, what it writes, and its exit
-- status (defined by this product).
use Rattle.std.specs.Prelude.{◌≡◌, ◌⊎◌, ◌<◌, ◌≤◌, ℕ, List, [], ◌∷◌, ◌++◌, codes, Option, Some, None, Result, Ok, Err, OnOk}
use Rattle.disk.specs.declared.disk.Disk.{Ghosts}
use Rattle.lattice.specs.Corners.{Corner}
use Rattle.lattice.specs.Limits.{largest_side, most_tiles}
use Rattle.lattice.specs.declared.refusal.Refusal.{Refusal}
use Rattle.lattice.specs.declared.refusal.Refusal.TheVariants.{NoMemory, BadName, BadSide, BadCapacity}
use Rattle.hgt.specs.Names.{IsFileName}
use Rattle.page_codec.specs.Sizes.{sectors_asked}
use Rattle.engine.specs.Events.{Happens}
use Rattle.engine.specs.State.{State, fresh, working}
use Rattle.lines.specs.declared.language.Language.{Language}
use Rattle.serving.specs.Answers.{Replied}
use Rattle.serving.specs.Promises.{side_in}
use Rattle.serving.specs.Served.{Outcome, ReadsNoFurther}
use Rattle.serving.specs.declared.session.ServeFault.{ServeFault}
use Rattle.store.specs.Formatted.{format_2}
use Rattle.store.specs.Sessions.{Session}
use Rattle.server.specs.CommandLine.{AskedBy, AskNothing}
use Rattle.server.specs.Endings.{EndsSession, Tells, TellsRefusal, bad_words}
use Rattle.server.specs.OnDisks.{ServesLines, ImportsTile, MakesStore, ChecksStore, GrowsAndUpgrades}
use Rattle.serving.specs.Outputs.{Puts, Stream}
use Rattle.server.specs.Places.{Access, Makes, Opens, Closes}
use Rattle.server.specs.Sizes.{IsTaken, IsRefusedFor}
use Rattle.server.specs.declared.arguments.Arguments.{Arguments}
use Rattle.server.specs.declared.arguments.Arguments.TheVariants.{Format, Import, Serve, Table, Check, Upgrade}
use Rattle.server.specs.declared.places.MakeFault.{MakeFault}
use Rattle.server.specs.declared.places.MakeFault.TheVariants.{Exists, Closed}

-- ---- on an empty mosaic in memory

-- An empty mosaic of this side is served: all replies were written and flushed, or a line names the stream that failed.
abbrev pub EndsServing : Language → (side capacity : ℕ) → (before after : Option (List ℕ)) → Stream → Stream → ℕ → Type 0
EndsServing language side capacity before after written new status =
    (states : List State) × (mid : Stream) × (result : Result (Unit {0}) ServeFault)
    × Outcome language (Replied (Happens capacity) side_in) before after written.contents mid.contents (working (fresh side)) states result
    × OnOk result (ReadsNoFurther language before after) × EndsSession result mid new status

-- the side is tested first, then the capacity
abbrev pub RunsTable : Language → (side capacity : ℕ) → (before after : Option (List ℕ)) → Stream → Stream → ℕ → Type 0
RunsTable language side capacity before after written new status =
    (((side < 3) ⊎ (largest_side < side)) × (after ≡ before) × TellsRefusal BadSide written new status)
    ⊎ ((3 ≤ side) × (side ≤ largest_side) × ((capacity < 1) ⊎ (most_tiles < capacity)) × (after ≡ before) × TellsRefusal BadCapacity written new status)
    ⊎ (IsTaken side capacity × EndsServing language side capacity before after written new status)

-- ---- on files: the accesses in order, each with its answer

-- The program wrote why there is no store's file at the path.
abbrev pub TellsFault : (path : List ℕ) → MakeFault → Stream → Stream → ℕ → Type 0
TellsFault path Exists written new status = Tells (codes "mosaic: exists ") path written new status
TellsFault path Closed written new status = Tells (codes "mosaic: cannot open ") path written new status

module _ {D : Type 0} (g : Ghosts D) where
  -- A new file was formatted as a store, and its disk is the one returned.
  abbrev pub EndsMaking : (path : List ℕ) → (side capacity : ℕ) → Result D MakeFault → Stream → Stream → Option D → ℕ → Type 0
  EndsMaking path side capacity (Ok old) written new disk status =
      (left : D) × (disk ≡ Some left) × (g.size old ≡ sectors_asked (format_2 side capacity)) × MakesStore g side capacity old left written new status
  EndsMaking path side capacity (Err fault) written new disk status = (disk ≡ None) × TellsFault path fault written new status

  -- a file of the least size is made, or a line says why it isn't
  abbrev pub RunsFormat : (path : List ℕ) → (side capacity : ℕ) → List (Access D) → Stream → Stream → Option D → ℕ → Type 0
  RunsFormat path side capacity accesses written new disk status =
      ((refusal : Refusal) × (accesses ≡ []) × (disk ≡ None) × IsRefusedFor side capacity refusal × TellsRefusal refusal written new status)
      ⊎ ((given : Result D MakeFault) × (accesses ≡ Makes path (sectors_asked (format_2 side capacity)) given ∷ []) × IsTaken side capacity × EndsMaking path side capacity given written new disk status)

  -- The store's file can't be opened, and a line says so.
  abbrev pub TellsNone : (path : List ℕ) → List (Access D) → Stream → Stream → Option D → List (Session g) → ℕ → Type 0
  TellsNone path accesses written new disk sessions status = (accesses ≡ Opens path None ∷ []) × (disk ≡ None) × (sessions ≡ []) × TellsFault path Closed written new status

  -- The store's file was opened; this was done on its disk, which is returned.
  abbrev pub OnStore : (path : List ℕ) → List (Access D) → Option D → (D → D → Type 0) → Type 0
  OnStore path accesses disk Did = (old left : D) × (accesses ≡ Opens path (Some old) ∷ []) × (disk ≡ Some left) × Did old left

  -- The name of the tile's file is tested first. Then the store's file is opened, and its store; then the tile's file
  -- is read.
  abbrev pub RunsImport : (path tile : List ℕ) → List (Access D) → Stream → Stream → Option D → List (Session g) → ℕ → Type 0
  RunsImport path tile accesses written new disk sessions status =
      ((accesses ≡ []) × (disk ≡ None) × (sessions ≡ []) × ((c : Corner) → ¬ IsFileName tile c) × TellsRefusal BadName written new status)
      ⊎ ((c : Corner) × IsFileName tile c × (
      TellsNone path accesses written new disk sessions status
      ⊎ ((old left : D) × (more : List (Access D)) × (accesses ≡ Opens path (Some old) ∷ more) × (disk ≡ Some left) × ImportsTile g c tile more old left sessions written new status)))

  abbrev pub RunsServe : Language → (path : List ℕ) → List (Access D) → (before after : Option (List ℕ)) → Stream → Stream → Option D → List (Session g) → ℕ → Type 0
  RunsServe language path accesses before after written new disk sessions status =
      ((after ≡ before) × TellsNone path accesses written new disk sessions status)
      ⊎ OnStore path accesses disk (λ old left. ServesLines g language old left sessions before after written new status)

  abbrev pub RunsCheck : (path : List ℕ) → List (Access D) → Stream → Stream → Option D → List (Session g) → ℕ → Type 0
  RunsCheck path accesses written new disk sessions status =
      TellsNone path accesses written new disk sessions status ⊎ OnStore path accesses disk (λ old left. ChecksStore g old left sessions written new status)

  abbrev pub RunsUpgrade : (path : List ℕ) → List (Access D) → Stream → Stream → Option D → List (Session g) → ℕ → Type 0
  RunsUpgrade path accesses written new disk sessions status =
      TellsNone path accesses written new disk sessions status ⊎ OnStore path accesses disk (λ old left. GrowsAndUpgrades g old left sessions written new status)

  -- ---- for any words

  -- the program's run for these words, with its sessions
  abbrev pub RunsAs : Language → Arguments → List (Access D) → (before after : Option (List ℕ)) → Stream → Stream → Option D → List (Session g) → ℕ → Type 0
  RunsAs language (Format path side capacity) accesses before after written new disk sessions status =
      (after ≡ before) × (sessions ≡ []) × RunsFormat path.now side capacity accesses written new disk status
  RunsAs language (Import path tile) accesses before after written new disk sessions status = (after ≡ before) × RunsImport path.now tile.now accesses written new disk sessions status
  RunsAs language (Serve path) accesses before after written new disk sessions status = RunsServe language path.now accesses before after written new disk sessions status
  RunsAs language (Table side capacity) accesses before after written new disk sessions status =
      (accesses ≡ []) × (disk ≡ None) × (sessions ≡ []) × RunsTable language side capacity before after written new status
  RunsAs language (Upgrade path) accesses before after written new disk sessions status = (after ≡ before) × RunsUpgrade path.now accesses written new disk sessions status
  RunsAs language (Check path) accesses before after written new disk sessions status = (after ≡ before) × RunsCheck path.now accesses written new disk sessions status

  -- The program with these words, for lines of this language: the files that it asks for, the reader and the writer
  -- before and after, the disk that it returns, its sessions, and its exit status. Words that it doesn't accept end in
  -- a line, and so does a lack of memory for them; otherwise it does what they ask for.
  abbrev pub CarriesOut : Language → (words : List (List ℕ)) → List (Access D) → (before after : Option (List ℕ)) → Stream → Stream → Option D → List (Session g) → ℕ → Type 0
  CarriesOut language words accesses before after written new disk sessions status =
      ((accesses ≡ []) × (disk ≡ None) × (sessions ≡ []) × (after ≡ before) × AskNothing words × Puts written new bad_words × (status ≡ 2))
      ⊎ ((accesses ≡ []) × (disk ≡ None) × (sessions ≡ []) × (after ≡ before) × TellsRefusal NoMemory written new status)
      ⊎ ((a : Arguments) × AskedBy words a × RunsAs language a accesses before after written new disk sessions status)

  -- The disk is closed, if there is one.
  abbrev pub closing : Option D → List (Access D)
  closing (Some disk) = Closes disk ∷ []
  closing None = []

  -- the program's run, whose last access closes the disk that `carry_out` returns
  abbrev pub Runs : Language → (words : List (List ℕ)) → List (Access D) → (before after : Option (List ℕ)) → Stream → Stream → ℕ → Type 0
  Runs language words accesses before after written new status =
      (disk : Option D) × (sessions : List (Session g)) × (first : List (Access D)) × (accesses ≡ first ++ closing disk) × CarriesOut language words first before after written new disk sessions status
