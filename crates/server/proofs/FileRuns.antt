-- Runs of the program on one file: their sessions, whole or stopped.
use Rattle.std.proofs.Common.{◌≡◌, inl, inr, ⊎_elim, ℕ, List, [], ◌∷◌, ◌++◌, map, Result, Ok, Err, refl, sym, ap, subst, ◌∙◌, arith}
use Rattle.std.specs.Prelude.{Option, Some, None}
use Rattle.disk.specs.Disk.{Image}
use Rattle.disk.specs.declared.disk.Disk.{Ghosts}
use Rattle.lattice.specs.declared.refusal.Refusal.{Refusal}
use Rattle.engine.specs.State.{fresh}
use Rattle.lines.specs.declared.language.Language.{Language}
use Rattle.serving.specs.Outputs.{Stream}
use Rattle.store.specs.Sessions.{Call, Asked, Upgraded, CountedSeams, HoldsOnly, IsOpening, Made, IsMade, AreMade, last_store, Session, Unopened, Ended, Stopped, IsSession, first_disk, last_disk, TakesOver, Visit, AreSessions, InTurn}
use Rattle.store.specs.Stores.{disk_of}
use Rattle.store.specs.declared.store.Store.{Store}
use Rattle.store.proofs.Calls.SessionsInTurn.{sessions_compose}
use Rattle.server.specs.Endings.{EndsAnswering, count_line}
use Rattle.server.specs.FileRuns.{IsPartOf, ArePartsOf, BeginsOn, HadNoFile, sectors_after, LeftAfter, Run, RunsInTurn, EachBegan, visits_of, RunsCompose}
use Rattle.server.specs.OnDisks.{HasFormatted, GrowsAndUpgrades, RunsGrown}
use Rattle.server.specs.Places.{Access, Makes, HasGrown}
use Rattle.server.specs.Program.{CarriesOut, EndsMaking, RunsAs, RunsFormat}
use Rattle.server.specs.declared.arguments.Arguments.{Arguments}
use Rattle.server.specs.declared.arguments.Arguments.TheVariants.{Format, Import, Serve, Table, Check, Upgrade}
use Rattle.server.specs.declared.places.MakeFault.{MakeFault}

module _ {D : Type 0} (g : Ghosts D) where
  -- All elements of the list are sessions.
  abbrev AllSessions : List (Session g) → Type 0
  AllSessions [] = Unit {0}
  AllSessions (session ∷ more) = IsSession g session × AllSessions more

  -- After a session that measured the disk, at most one more follows, on the lengthened disk.
  abbrev AreGrown : (measured : D) → List (Session g) → Type 0
  AreGrown measured [] = Unit {0}
  AreGrown measured (next ∷ []) = IsSession g next × (n : ℕ) × HasGrown g n measured (first_disk g next)
  AreGrown measured (next ∷ third ∷ more) = ⊥

  -- These are the sessions of a run.
  abbrev AreOf : List (Session g) → Type 0
  AreOf [] = Unit {0}
  AreOf (session ∷ []) = IsSession g session
  AreOf (session ∷ next ∷ more) = IsSession g session × (old : D) × (store : Store D g) × (session ≡ Ended old store []) × AreGrown (disk_of store) (next ∷ more)

  same : (xs ys : List (Session g)) → xs ≡ ys → AreOf ys → AreOf xs
  same xs ys is all = subst AreOf (sym is) all

  grown : (sectors : ℕ) (measured left : D) (sessions : List (Session g)) (written now : Stream) (status : ℕ) → RunsGrown g sectors measured left sessions written now status → AreGrown measured sessions
  grown sectors measured left sessions written now status (inl short) = subst (AreGrown measured) (sym short.0) tt
  grown sectors measured left sessions written now status (inr (longer, has, upgrades)) =
      ⊎_elim (λ closed. subst (AreGrown measured) (sym closed.1) (closed.2, sectors, has)) (λ did. subst (AreGrown measured) (sym did.2) ((did.3, did.4), sectors, has)) upgrades

  then_grown : (old : D) (store : Store D g) → IsOpening g old (Ok store) → (more : List (Session g)) → AreGrown (disk_of store) more → AreOf (Ended old store [] ∷ more)
  then_grown old store opening [] are = (opening, tt)
  then_grown old store opening (next ∷ more) are = ((opening, tt), old, store, refl, are)

  upgraded : (old left : D) (sessions : List (Session g)) (written now : Stream) (status : ℕ) → GrowsAndUpgrades g old left sessions written now status → AreOf sessions
  upgraded old left sessions written now status (inl closed) = same sessions _ closed.1 closed.2
  upgraded old left sessions written now status (inr (store, more, is, opening, runs)) = same sessions _ is (then_grown old store opening more (grown _ _ left more written now status runs))

  asked : (language : Language) (a : Arguments) (accesses : List (Access D)) (before after : Option (List ℕ)) (written new : Stream) (disk : Option D) (sessions : List (Session g)) (status : ℕ)
      → RunsAs g language a accesses before after written new disk sessions status → AreOf sessions
  asked language (Format path side capacity) accesses before after written new disk sessions status (read, none, runs) = same sessions [] none tt
  asked language (Import path tile) accesses before after written new disk sessions status (read, inl none) = same sessions [] none.2 tt
  asked language (Import path tile) accesses before after written new disk sessions status (read, inr (c, named, inl none)) = same sessions [] none.2 tt
  asked language (Import path tile) accesses before after written new disk sessions status (read, inr (c, named, inr (old, left, more, opens, is, imports))) = ⊎_elim (λ closed. same sessions _ closed.1 closed.2) (λ did. same sessions _ did.2 (did.3, did.4)) imports
  asked language (Serve path) accesses before after written new disk sessions status (inl none) = same sessions [] none.1.2 tt
  asked language (Serve path) accesses before after written new disk sessions status (inr (old, left, opens, is, serves)) = ⊎_elim (λ closed. same sessions _ closed.1 closed.2) (λ did. same sessions _ did.2 (did.3, did.4)) serves
  asked language (Table side capacity) accesses before after written new disk sessions status none = same sessions [] none.2 tt
  asked language (Upgrade path) accesses before after written new disk sessions status (read, inl none) = same sessions [] none.2 tt
  asked language (Upgrade path) accesses before after written new disk sessions status (read, inr (old, left, opens, is, upgrades)) = upgraded old left sessions written new status upgrades
  asked language (Check path) accesses before after written new disk sessions status (read, inl none) = same sessions [] none.2 tt
  asked language (Check path) accesses before after written new disk sessions status (read, inr (old, left, opens, is, checks)) = ⊎_elim (λ closed. same sessions _ closed.1 closed.2) (λ did. same sessions _ did.2 (did.3, did.4)) checks

  carried : (language : Language) (words : List (List ℕ)) (accesses : List (Access D)) (before after : Option (List ℕ)) (written new : Stream) (disk : Option D) (sessions : List (Session g)) (status : ℕ)
      → CarriesOut g language words accesses before after written new disk sessions status → AreOf sessions
  carried language words accesses before after written new disk sessions status (inl none) = same sessions [] none.2 tt
  carried language words accesses before after written new disk sessions status (inr (inl none)) = same sessions [] none.2 tt
  carried language words accesses before after written new disk sessions status (inr (inr (a, by, runs))) = asked language a accesses before after written new disk sessions status runs

  -- ---- how far a stopped session came

  made_first : (store : Store D g) (calls more : List (Made g)) → AreMade g store (calls ++ more) → AreMade g store calls × AreMade g (last_store g store calls) more
  made_first store [] more made = (tt, made)
  made_first store (call ∷ calls) more (one, made) = let (first, rest) = made_first call.store calls more made in ((one, first), rest)

  part_is : (part whole : Session g) → IsPartOf g part whole → IsSession g whole → IsSession g part
  part_is (Unopened disk opened) whole (inl is) session = subst (λ (s : Session g). IsSession g s) is session
  part_is (Unopened disk opened) whole (inr (store, calls, opens, is)) session = rw opens (subst (λ (s : Session g). IsSession g s) is session).0
  part_is (Ended disk store calls) whole (more, is) session =
      let (opening, made) = subst (λ (s : Session g). IsSession g s) is session in
      (opening, (made_first store calls more made).0)
  part_is (Stopped disk store calls last) whole (more, is) session =
      let (opening, made) = subst (λ (s : Session g). IsSession g s) is session in
      let (first, rest) = made_first store calls (last ∷ more) made in
      (opening, first, rest.0)

  parts_are : (parts sessions : List (Session g)) → ArePartsOf g parts sessions → AreOf sessions → AllSessions parts
  parts_are [] sessions are all = tt
  parts_are (part ∷ []) [] are all = absurd are
  parts_are (part ∷ []) (session ∷ []) is one = (part_is part session is one, tt)
  parts_are (part ∷ []) (session ∷ next ∷ more) is all = (part_is part session is all.0, tt)
  parts_are (part ∷ next ∷ parts) [] are all = absurd are
  parts_are (part ∷ next ∷ parts) (session ∷ []) are all = absurd are.1
  parts_are (part ∷ next ∷ []) (session ∷ second ∷ []) (first, is) (one, old, store, ended, two) = (subst (λ (s : Session g). IsSession g s) (sym first) one, (part_is next second is two.0, tt))
  parts_are (part ∷ next ∷ third ∷ parts) (session ∷ second ∷ []) are all = absurd are.1.1
  parts_are (part ∷ next ∷ parts) (session ∷ second ∷ third ∷ more) are (one, old, store, ended, two) = absurd two

  -- ---- a run without a session

  none_had : (accesses : List (Access D)) (disk : Option D) → disk ≡ None → HadNoFile g accesses disk
  none_had accesses disk is = subst (λ (d : Option D). HadNoFile g accesses d) (sym is) tt

  there_is_one : (session : Session g) (more sessions : List (Session g)) → sessions ≡ session ∷ more → sessions ≡ [] → ⊥
  there_is_one session more sessions is none = cc (sym is ∙ none)

  made_one : (path : List ℕ) (side capacity n : ℕ) (given : Result D MakeFault) (accesses : List (Access D)) (written new : Stream) (disk : Option D) (status : ℕ)
      → accesses ≡ Makes path n given ∷ [] → EndsMaking g path side capacity given written new disk status → HadNoFile g accesses disk
  made_one path side capacity n (Ok old) accesses written new disk status is (left, some, size, ends) = subst (λ (d : Option D). HadNoFile g accesses d) (sym some) (path, n, old, is)
  made_one path side capacity n (Err fault) accesses written new disk status is (none, ends) = none_had accesses disk none

  had_no_file : (language : Language) (a : Arguments) (accesses : List (Access D)) (before after : Option (List ℕ)) (written new : Stream) (disk : Option D) (sessions : List (Session g)) (status : ℕ)
      → RunsAs g language a accesses before after written new disk sessions status → sessions ≡ [] → HadNoFile g accesses disk
  had_no_file language (Format path side capacity) accesses before after written new disk sessions status (read, none, inl (refusal, none_asked, no_disk, refused, told)) empty = none_had accesses disk no_disk
  had_no_file language (Format path side capacity) accesses before after written new disk sessions status (read, none, inr (given, makes, taken, ends)) empty = made_one path.now side capacity _ given accesses written new disk status makes ends
  had_no_file language (Import path tile) accesses before after written new disk sessions status (read, inl none) empty = none_had accesses disk none.1
  had_no_file language (Import path tile) accesses before after written new disk sessions status (read, inr (c, named, inl none)) empty = none_had accesses disk none.1
  had_no_file language (Import path tile) accesses before after written new disk sessions status (read, inr (c, named, inr (old, left, more, opens, is, imports))) empty =
      absurd (⊎_elim (λ closed. there_is_one _ [] sessions closed.1 empty) (λ did. there_is_one _ [] sessions did.2 empty) imports)
  had_no_file language (Serve path) accesses before after written new disk sessions status (inl none) empty = none_had accesses disk none.1.1
  had_no_file language (Serve path) accesses before after written new disk sessions status (inr (old, left, opens, is, serves)) empty =
      absurd (⊎_elim (λ closed. there_is_one _ [] sessions closed.1 empty) (λ did. there_is_one _ [] sessions did.2 empty) serves)
  had_no_file language (Table side capacity) accesses before after written new disk sessions status none empty = none_had accesses disk none.1
  had_no_file language (Upgrade path) accesses before after written new disk sessions status (read, inl none) empty = none_had accesses disk none.1
  had_no_file language (Upgrade path) accesses before after written new disk sessions status (read, inr (old, left, opens, is, upgrades)) empty =
      absurd (⊎_elim (λ closed. there_is_one _ [] sessions closed.1 empty) (λ did. there_is_one _ did.1 sessions did.2 empty) upgrades)
  had_no_file language (Check path) accesses before after written new disk sessions status (read, inl none) empty = none_had accesses disk none.1
  had_no_file language (Check path) accesses before after written new disk sessions status (read, inr (old, left, opens, is, checks)) empty =
      absurd (⊎_elim (λ closed. there_is_one _ [] sessions closed.1 empty) (λ did. there_is_one _ [] sessions did.2 empty) checks)

  no_file : (language : Language) (words : List (List ℕ)) (accesses : List (Access D)) (before after : Option (List ℕ)) (written new : Stream) (disk : Option D) (sessions : List (Session g)) (status : ℕ)
      → CarriesOut g language words accesses before after written new disk sessions status → sessions ≡ [] → HadNoFile g accesses disk
  no_file language words accesses before after written new disk sessions status (inl none) empty = none_had accesses disk none.1
  no_file language words accesses before after written new disk sessions status (inr (inl none)) empty = none_had accesses disk none.1
  no_file language words accesses before after written new disk sessions status (inr (inr (a, by, runs))) empty = had_no_file language a accesses before after written new disk sessions status runs empty

  -- ---- how the second session of a run begins

  honest_before : (old new : Store D g) (call : Call) → IsMade g old call new → g.honest (disk_of new) → g.honest (disk_of old)
  honest_before old new (Asked event answer) made honest = made.honest honest
  honest_before old new (Upgraded result) made honest = made.0.returns.honest honest
  honest_before old new (CountedSeams result) made honest = (made.0.nothing honest).honest

  honest_first : (store : Store D g) (calls : List (Made g)) → AreMade g store calls → g.honest (disk_of (last_store g store calls)) → g.honest (disk_of store)
  honest_first store [] made honest = honest
  honest_first store (m ∷ more) (made, rest) honest = honest_before store m.store m.call made (honest_first m.store more rest honest)

  honest_at_first : (session : Session g) → IsSession g session → g.honest (last_disk g session) → g.honest (first_disk g session)
  honest_at_first (Unopened disk opened) opening honest = (opening.nothing honest).honest
  honest_at_first (Ended disk store calls) (opening, made) honest = (opening.nothing (honest_first store calls made honest)).honest
  honest_at_first (Stopped disk store calls last) (opening, made, one) honest =
      (opening.nothing (honest_first store calls made (honest_before (last_store g store calls) last.store last.call one honest))).honest

  same_disk : (part whole : Session g) → IsPartOf g part whole → first_disk g whole ≡ first_disk g part
  same_disk (Unopened disk opened) whole (inl is) = ap (first_disk g) is
  same_disk (Unopened disk opened) whole (inr (store, calls, opens, is)) = ap (first_disk g) is
  same_disk (Ended disk store calls) whole (more, is) = ap (first_disk g) is
  same_disk (Stopped disk store calls last) whole (more, is) = ap (first_disk g) is

  takes_over : (n : ℕ) (measured longer : D) → HasGrown g n measured longer → g.honest longer → TakesOver g (g.size measured) (g.may measured) longer
  takes_over n measured longer has honest = record {
    longer = omega (arith, has.size);
    holds = λ image left. (image, (has.nothing honest).run.now image left, λ k lt. refl);
  }

  -- ---- a run that made a store

  made_it : (side capacity : ℕ) (old start : D) (result : Result (Unit {0}) Refusal) (written new : Stream) → HasFormatted g old start side capacity result → EndsAnswering (λ _. count_line 0) result written new 0 → g.honest start
      → HoldsOnly g start side capacity (fresh side)
  made_it side capacity old start (Ok u) written new formatted ends honest = formatted.formatted honest
  made_it side capacity old start (Err r) written new formatted ends honest = absurd (let one = ends.1 in cc)

  there_is : (start : D) → ◌≡◌ {A = Option D} (Some start) None → ⊥
  there_is start none = cc

  making : (side capacity : ℕ) (path : List ℕ) (given : Result D MakeFault) (written new : Stream) (start : D) → EndsMaking g path side capacity given written new (Some start) 0 → g.honest start → HoldsOnly g start side capacity (fresh side)
  making side capacity path (Ok old) written new start (left, there, size, (result, has, ends)) honest =
      let is_left : start ≡ left = cc there in
      made_it side capacity old start result written new (subst (λ (d : D). HasFormatted g old d side capacity result) (sym is_left) has) ends honest
  making side capacity path (Err fault) written new start none honest = absurd (there_is start none.0)

  formatted : (side capacity : ℕ) (path : List ℕ) (accesses : List (Access D)) (written new : Stream) (start : D) → RunsFormat g path side capacity accesses written new (Some start) 0 → g.honest start → HoldsOnly g start side capacity (fresh side)
  formatted side capacity path accesses written new start (inl refused) honest = absurd (there_is start refused.2)
  formatted side capacity path accesses written new start (inr (given, is, taken, ends)) honest = making side capacity path given written new start ends honest

module _ {I D : Type 0} (gs : I → Ghosts D) where
  seen_by : (i : I) (sessions : List (Session (gs i))) (more : List (Visit gs)) → AllSessions (gs i) sessions → AreSessions gs more → AreSessions gs (map (λ (session : Session (gs i)). (i, session)) sessions ++ more)
  seen_by i [] more all are = are
  seen_by i (session ∷ sessions) more (one, all) are = (one, seen_by i sessions more all are)

  runs_are : (runs : List (Run gs)) → AreSessions gs (visits_of gs runs)
  runs_are [] = tt
  runs_are (run ∷ more) =
      seen_by run.by run.came (visits_of gs more)
      (parts_are (gs run.by) run.came run.sessions run.parts (carried (gs run.by) run.language run.words run.accesses run.before run.after run.written run.new run.disk run.sessions run.status run.carries)) (runs_are more)

  each_began : (runs : List (Run gs)) → EachBegan gs runs
  each_began [] = tt
  each_began (run ∷ more) = (no_file (gs run.by) run.language run.words run.accesses run.before run.after run.written run.new run.disk run.sessions run.status run.carries, each_began more)

  turn : (i : I) (sectors : ℕ) (Left : Image → Type 0) (came sessions : List (Session (gs i))) → ArePartsOf (gs i) came sessions → AreOf (gs i) sessions → BeginsOn (gs i) sectors Left came
      → (more : List (Visit gs)) → InTurn gs (sectors_after (gs i) sectors came) (LeftAfter (gs i) Left came) more → InTurn gs sectors Left (map (λ (session : Session (gs i)). (i, session)) came ++ more)
  turn i sectors Left [] sessions are all begins more rest = rest
  turn i sectors Left (part ∷ []) sessions are all (takes, honest) more rest = (takes, honest, rest)
  turn i sectors Left (part ∷ next ∷ parts) [] are all begins more rest = absurd are
  turn i sectors Left (part ∷ next ∷ parts) (session ∷ []) are all begins more rest = absurd are.1
  turn i sectors Left (part ∷ next ∷ third ∷ parts) (session ∷ second ∷ []) are all begins more rest = absurd are.1.1
  turn i sectors Left (part ∷ next ∷ parts) (session ∷ second ∷ third ∷ others) are (one, old, store, ended, two) begins more rest = absurd two
  turn i sectors Left (part ∷ next ∷ []) (session ∷ second ∷ []) (first, is) (one, old, store, ended, (two, n, has)) (takes, honest) more rest =
      let longer = honest_at_first (gs i) next (part_is (gs i) next second is two) honest in
      let grew : HasGrown (gs i) n (disk_of store) (first_disk (gs i) next) = subst (λ (disk : D). HasGrown (gs i) n (disk_of store) disk) (same_disk (gs i) next second is) has in
      subst (λ (s : Session (gs i)). TakesOver (gs i) sectors Left (first_disk (gs i) s) → InTurn gs sectors Left ((i, s) ∷ (i, next) ∷ more)) (sym (first ∙ ended))
      (λ began. (began, (grew.nothing longer).honest, (takes_over (gs i) n (disk_of store) (first_disk (gs i) next) grew longer, honest, rest))) takes

  runs_in_turn : (sectors : ℕ) (Left : Image → Type 0) (runs : List (Run gs)) → RunsInTurn gs sectors Left runs → InTurn gs sectors Left (visits_of gs runs)
  runs_in_turn sectors Left [] turns = tt
  runs_in_turn sectors Left (run ∷ more) (begins, turns) =
      turn run.by sectors Left run.came run.sessions run.parts (carried (gs run.by) run.language run.words run.accesses run.before run.after run.written run.new run.disk run.sessions run.status run.carries) begins (visits_of gs more)
      (runs_in_turn (sectors_after (gs run.by) sectors run.came) (LeftAfter (gs run.by) Left run.came) more turns)

pub runs_compose : {I D : Type 0} (gs : I → Ghosts D) → ((i : I) (disk : D) (image : Image) → (gs i).honest disk → (gs i).since disk ((gs i).moment disk) image → (gs i).may disk image) → RunsCompose gs
runs_compose gs only_now side capacity i path accesses written new start runs makes honest turns = (
  sessions_compose gs only_now side capacity (fresh side) i start (visits_of gs runs) (formatted (gs i) side capacity path accesses written new start makes honest) (runs_are gs runs) (runs_in_turn gs ((gs i).size start) ((gs i).may start) runs turns),
  each_began gs runs,
)
