-- Runs of the program on one file, one after another (defined by this product).
use Rattle.std.specs.Prelude.{◌≡◌, ◌⊎◌, ℕ, List, [], ◌∷◌, ◌++◌, map, Option, Some, None, Ok}
use Rattle.disk.specs.Disk.{Image}
use Rattle.disk.specs.declared.disk.Disk.{Ghosts}
use Rattle.engine.specs.Runs.{last_of}
use Rattle.engine.specs.State.{fresh}
use Rattle.lines.specs.declared.language.Language.{Language}
use Rattle.serving.specs.Outputs.{Stream}
use Rattle.store.specs.Accepted.{none_asked}
use Rattle.store.specs.Sessions.{Made, Session, Unopened, Ended, Stopped, Visit, TakesOver, first_disk, last_disk, MayLeave, EachFinds}
use Rattle.store.specs.declared.store.Store.{Store}
use Rattle.server.specs.Places.{Access, Makes}
use Rattle.server.specs.Program.{CarriesOut, RunsFormat}

module _ {D : Type 0} (g : Ghosts D) where
  -- The first session is the second one or a part of it: stopped during its opening, between two calls or during one.
  abbrev pub IsPartOf : Session g → Session g → Type 0
  IsPartOf (Unopened disk opened) whole = (whole ≡ Unopened disk opened) ⊎ ((store : Store D g) × (calls : List (Made g)) × (opened ≡ Ok store) × (whole ≡ Ended disk store calls))
  IsPartOf (Ended disk store calls) whole = (more : List (Made g)) × (whole ≡ Ended disk store (calls ++ more))
  IsPartOf (Stopped disk store calls last) whole = (more : List (Made g)) × (whole ≡ Ended disk store (calls ++ last ∷ more))

  -- These sessions are the first of those. All but the last are whole; the last may be stopped.
  abbrev pub ArePartsOf : List (Session g) → List (Session g) → Type 0
  ArePartsOf [] sessions = Unit {0}
  ArePartsOf (part ∷ parts) [] = ⊥
  ArePartsOf (part ∷ []) (session ∷ sessions) = IsPartOf part session
  ArePartsOf (part ∷ next ∷ parts) (session ∷ sessions) = (part ≡ session) × ArePartsOf (next ∷ parts) sessions

  -- Each run begins on the honest disk that the run before it left. A run without a session has no disk.
  abbrev pub BeginsOn : (sectors : ℕ) → (Image → Type 0) → List (Session g) → Type 0
  BeginsOn sectors Left [] = Unit {0}
  BeginsOn sectors Left (session ∷ later) = TakesOver g sectors Left (first_disk g session) × g.honest (last_disk g (last_of session later))

  -- A run had no disk, or that of a file that it made.
  abbrev pub HadNoFile : List (Access D) → Option D → Type 0
  HadNoFile accesses None = Unit {0}
  HadNoFile accesses (Some disk) = (path : List ℕ) × (sectors : ℕ) × (made : D) × (accesses ≡ Makes path sectors (Ok made) ∷ [])

  -- the number of the disk's sectors after these sessions
  abbrev pub sectors_after : ℕ → List (Session g) → ℕ
  sectors_after sectors [] = sectors
  sectors_after sectors (session ∷ later) = g.size (last_disk g (last_of session later))

  -- an image that the last of these sessions may have left
  abbrev pub LeftAfter : (Image → Type 0) → List (Session g) → Image → Type 0
  LeftAfter Left [] = Left
  LeftAfter Left (session ∷ later) = MayLeave g (last_of session later)

module _ {I D : Type 0} (gs : I → Ghosts D) where
  -- A run of the program, whole or stopped at any moment.
  pub record Run : Type 0 where
    -- the ghosts of the file's disk
    pub by : I
    -- everything that the run does, if it isn't stopped
    pub language : Language
    pub words : List (List ℕ)
    pub accesses : List (Access D)
    pub before : Option (List ℕ)
    pub after : Option (List ℕ)
    pub written : Stream
    pub new : Stream
    pub disk : Option D
    pub sessions : List (Session (gs by))
    pub status : ℕ
    pub carries : CarriesOut (gs by) language words accesses before after written new disk sessions status
    -- the sessions that the run made before it ended or was stopped
    pub came : List (Session (gs by))
    pub parts : ArePartsOf (gs by) came sessions

  -- Each run begins on what the run before it left.
  abbrev pub RunsInTurn : (sectors : ℕ) → (Image → Type 0) → List Run → Type 0
  RunsInTurn sectors Left [] = Unit {0}
  RunsInTurn sectors Left (run ∷ more) =
      BeginsOn (gs run.by) sectors Left run.came × RunsInTurn (sectors_after (gs run.by) sectors run.came) (LeftAfter (gs run.by) Left run.came) more

  -- Each run without a session, such as a `format`, had no existing file's disk.
  abbrev pub EachBegan : List Run → Type 0
  EachBegan [] = Unit {0}
  EachBegan (run ∷ more) = (run.sessions ≡ [] → HadNoFile (gs run.by) run.accesses run.disk) × EachBegan more

  abbrev pub visits_of : List Run → List (Visit gs)
  visits_of [] = []
  visits_of (run ∷ more) = map (λ (session : Session (gs run.by)). (run.by, session)) run.came ++ visits_of more

  -- `format` made a store of the file and ended with status 0. Any runs of the program follow, each on what the one
  -- before it left, ended or stopped at any moment. Then each opening finds the mosaic after the accepted commands. A
  -- run without a session, a further `format` for example, left the file unchanged: it had no disk, or that of a file
  -- that it made.
  abbrev pub RunsCompose : Type 0
  RunsCompose = (side capacity : ℕ) (i : I) (path : List ℕ) (accesses : List (Access D)) (written new : Stream) (start : D) (runs : List Run)
      → RunsFormat (gs i) path side capacity accesses written new (Some start) 0 → (gs i).honest start
      → RunsInTurn ((gs i).size start) ((gs i).may start) runs → EachFinds gs side capacity (fresh side) [] none_asked (visits_of runs) × EachBegan runs
