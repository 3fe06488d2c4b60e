-- What the answers of an engine's calls say about its mosaic.
use Rattle.std.proofs.Common.{SFits, w16, to_z, of_z, ◌≡◌, ◌≢◌, ◌+◌, ◌<◌, ◌≤◌, ℕ, ℤ, List, length, IsTrue, true≢false, inl, inr, refl, sym, ap, ◌∙◌, subst, arith}
use Rattle.std.specs.Global.{Vec}
use Rattle.std.specs.Prelude.{if◌then◌else◌, Option, Some, None, Result, Ok, Err, MatchResult}
use Rattle.std.proofs.lemmas.Bool.{cases_lt}
use Rattle.std.proofs.lemmas.Int.{to_z-of_z}
use Rattle.catalogue.specs.Reading.{HasRisen}
use Rattle.lattice.specs.Corners.{Corner, is_corner}
use Rattle.lattice.specs.Ground.{terrain}
use Rattle.lattice.specs.Mosaic.{Mosaic}
use Rattle.lattice.specs.Terrain.{IsFilledLevel}
use Rattle.lattice.specs.declared.point.Point.{Point}
use Rattle.lattice.specs.declared.height.Height.{Height}
use Rattle.lattice.specs.declared.refusal.Refusal.{Refusal}
use Rattle.lattice.specs.declared.refusal.Refusal.TheVariants.{BadName, BadLength, NoTile, Outside, Void, Device, NoMemory, Failed}
use Rattle.water.specs.FlowPath.{IsInWatershed}
use Rattle.water.proofs.MosaicGrid.{level_ground}
use Rattle.water.specs.TileLevels.{IsLevelOrVoid}
use Rattle.water.specs.Questions.{IsAnswered, DrainsBy, IsCodeOrNone, AreTileCounts}
use Rattle.water.specs.Runs.{AreRuns}
use Rattle.water.specs.declared.run.Run.{Run}
use Rattle.engine.specs.Engines.{IsCall, answered, items_in}
use Rattle.engine.specs.Events.{Happens, SaysFailed}
use Rattle.engine.specs.Members.{members}
use Rattle.engine.specs.Told.{WritesFew}
use Rattle.engine.proofs.Chains.{not_reopened}
use Rattle.engine.specs.Outcomes.{Stays, AnswersNot, ElevatesNot, ListsNot, TellsTile}
use Rattle.engine.specs.State.{Contents, State}
use Rattle.engine.specs.declared.engine.Engine.{Ghosts}
use Rattle.engine.specs.declared.event.Event.{Event}
use Rattle.engine.specs.declared.event.Event.TheVariants as ask
use Rattle.engine.specs.declared.event.Reply.{Reply}
use Rattle.engine.specs.declared.event.Reply.TheVariants as reply
use Rattle.engine.proofs.Questions as questions
use Rattle.lines.specs.Questions.{OnlyAsks}
use Rattle.windows.specs.Results.{OfAny, OfPoint, OfTile, OfCopy, refused_corner}
use Rattle.windows.specs.Telling.{Asked, Tells, refusal_of}

-- A question writes nothing.
pub unwritten : (event : Event) (version side before now : ℕ) → OnlyAsks event → WritesFew version side event before now → now ≡ before
unwritten (ask.Do c) version side before now only few = absurd only
unwritten ask.Step version side before now only few = absurd only
unwritten ask.Reopen version side before now only few = absurd only
unwritten event version side before now only few = few

risen : (before mid now : ℕ) → before ≤ mid → HasRisen mid now → HasRisen before now
risen before mid now later up = omega (arith, later, up)

module _ {E : Type 0} (g : Ghosts E) where
  -- some questions, and then others
  pub then_told : (a b c : E) (i j : ℕ) (refused : Option Refusal) (P Q R : Mosaic → Type 0) → Tells g a b i None P → Tells g b c j refused Q → ((m : Mosaic) → P m → Q m → R m) → Tells g a c (i + j) refused R
  then_told a b c i j refused P Q R first last both =
      let same : g.has_failed b ≡ g.has_failed a = first.stays (λ none. cc) in
      record {
        honest = λ h. first.honest (last.honest h);
        kept = λ h contents has. last.kept h contents (first.kept (last.honest h) contents has);
        says = λ h contents has. both contents.mosaic (first.says (last.honest h) contents has) (last.says h contents (first.kept (last.honest h) contents has));
        had_failed = λ some failed. elim (cases_lt 0 j) [
          | inl more ↦ last.had_failed more (same ∙ failed)
          | inr none ↦ let no : None ≡ Some Failed = first.had_failed (omega (arith, some, none)) failed in cc
        ];
        failed = λ is. sym same ∙ last.failed is;
        device = λ is. risen (g.failures a) (g.failures b) (g.failures c) first.later (last.device is);
        stays = λ other. last.stays other ∙ same;
        later = omega (arith, first.later, last.later);
        writes = last.writes ∙ first.writes;
        capacity = last.capacity ∙ first.capacity;
      }

  -- a consequence of the answers, with an equal count of questions
  pub so_told : (a b : E) (i j : ℕ) (refused : Option Refusal) (P Q : Mosaic → Type 0) → Tells g a b i refused P → (0 < j → 0 < i) → ((m : Mosaic) → P m → Q m) → Tells g a b j refused Q
  so_told a b i j refused P Q told some more = record {
    honest = told.honest;
    kept = told.kept;
    says = λ h contents has. more contents.mosaic (told.says h contents has);
    had_failed = λ any failed. told.had_failed (some any) failed;
    failed = told.failed;
    device = told.device;
    stays = told.stays;
    later = told.later;
    writes = told.writes;
    capacity = told.capacity;
  }

  -- An answer, or a refusal other than the disk's, may be passed on as another answer.
  pub told_as : (a b : E) (n : ℕ) (refused other : Option Refusal) (P Q : Mosaic → Type 0) → Tells g a b n refused P → (refused ≢ Some Failed) × (other ≢ Some Failed) × (refused ≢ Some Device) × (other ≢ Some Device)
      → ((m : Mosaic) → P m → Q m) → Tells g a b n other Q
  told_as a b n refused other P Q told not more = record {
    honest = told.honest;
    kept = told.kept;
    says = λ h contents has. more contents.mosaic (told.says h contents has);
    had_failed = λ any failed. absurd (not.0 (told.had_failed any failed));
    failed = λ is. absurd (not.1 is);
    device = λ is. absurd (not.3 is);
    stays = λ _. told.stays not.2;
    later = told.later;
    writes = told.writes;
    capacity = told.capacity;
  }

  -- The questions are asked if nothing is refused at once.
  pub as_asked : (a b : E) (first : Option Refusal) (n : ℕ) (refused : Option Refusal) (Says : Mosaic → Type 0) → first ≡ None → Tells g a b n refused Says → Asked g a b first n refused Says
  as_asked a b first n refused Says none told = subst (λ (f : Option Refusal). Asked g a b f n refused Says) (sym none) told

  -- a refusal that is passed on
  pub still_refused : {S T : Type 0} (a b : E) (n : ℕ) (found : Result S Refusal) (result : Result T Refusal) (r : Refusal) → found ≡ Err r → result ≡ Err r → (P : Mosaic → S → Type 0) (Q : Mosaic → T → Type 0)
      → Tells g a b n (refusal_of found) (λ m. OfAny (P m) found) → Tells g a b n (refusal_of result) (λ m. OfAny (Q m) result)
  still_refused {S} {T} a b n found result r was is P Q told =
      subst (λ (x : Result T Refusal). Tells g a b n (refusal_of x) (λ m. OfAny (Q m) x)) (sym is)
      (so_told a b n n (Some r) _ _ (subst (λ (x : Result S Refusal). Tells g a b n (refusal_of x) (λ m. OfAny (P m) x)) was told) (λ some. some) (λ m of_call. of_call))

  module _ {T : Type 0} (a b : E) (event : Event) (tell : T → Reply) (only : OnlyAsks event) (is : questions.IsAnswered event tell) (fails : (answer : Reply) → SaysFailed event answer → answer ≡ reply.Refused Failed) where
    -- one call that leaves the contents unchanged
    pub asked_once : (result : Result T Refusal) (Says : Mosaic → Type 0) → IsCall (members g) a event (answered tell result) b
        → ((s t : State) → Happens (g.capacity_of a) s event (answered tell result) t → (t.contents ≡ s.contents) × Says s.contents.mosaic) → Tells g a b 1 (refusal_of result) Says
    asked_once result Says call happens =
        let had = case_had result call in
        record {
          honest = call.honest;
          kept = λ h contents has. let it = call.happens h has.0 has.1.0 in (it.0, (it.1.0, (happens has.0 it.0 it.1.1).0 ∙ has.1.1));
          says = λ h contents has. let it = call.happens h has.0 has.1.0 in subst (λ (c : Contents). Says c.mosaic) has.1.1 (happens has.0 it.0 it.1.1).1;
          had_failed = λ any failed. had.0 failed;
          failed = had.1;
          device = had.2;
          stays = had.3;
          later = call.failures.later;
          writes = unwritten event _ _ _ _ only call.writes.few;
          capacity = call.capacity (not_reopened event _ (λ opens. subst OnlyAsks opens only) call.told.matches);
        }
      where
        case_had : (result : Result T Refusal) → IsCall (members g) a event (answered tell result) b
            → (IsTrue (g.has_failed a) → refusal_of result ≡ Some Failed) × (refusal_of result ≡ Some Failed → IsTrue (g.has_failed a))
            × (refusal_of result ≡ Some Device → HasRisen (g.failures a) (g.failures b)) × (refusal_of result ≢ Some Device → g.has_failed b ≡ g.has_failed a)
        case_had (Ok x) call = (
          (λ failed. absurd (is.no_refusal x Failed (fails (tell x) (call.told.says failed)))),
          (λ none. cc),
          (λ none. cc),
          (λ other. call.told.after_is ∙ is.goes_on (g.has_failed a) x),
        )
        case_had (Err r) call = (
          (λ failed. let same : reply.Refused r ≡ reply.Refused Failed = fails (reply.Refused r) (call.told.says failed) in cc),
          (λ is_failed. call.told.had_failed (let same : r ≡ Failed = cc in ap (λ (x : Refusal). reply.Refused x) same)),
          (λ is_device. call.failures.device (let same : r ≡ Device = cc in ap (λ (x : Refusal). reply.Refused x) same)),
          (λ other. call.told.after_is ∙ is.passes (g.has_failed a) r (λ device. other (ap (λ (x : Refusal). Some x) device))),
        )

stayed : (s t : State) → Stays s t → t.contents ≡ s.contents
stayed s t stays = ap (λ (u : State). u.contents) stays.same

pub corner_is : (lat lon : ℤ) → SFits w16 lat → SFits w16 lon → ◌≡◌ {A = Corner} (record { lat = to_z w16 (of_z w16 lat); lon = to_z w16 (of_z w16 lon) }) (record { lat = lat; lon = lon })
corner_is lat lon fits_lat fits_lon =
    subst (λ (a : ℤ). ◌≡◌ {A = Corner} (record { lat = to_z w16 (of_z w16 lat); lon = to_z w16 (of_z w16 lon) }) (record { lat = a; lon = to_z w16 (of_z w16 lon) })) (to_z-of_z w16 lat fits_lat) refl
    ∙ ap (λ (b : ℤ). record { lat = lat; lon = b }) (to_z-of_z w16 lon fits_lon)

-- A corner in range isn't refused.
pub corner_there : (c : Corner) → IsTrue (is_corner c) → refused_corner c ≡ None
corner_there c is = ap (λ b. if b then None else Some BadName) is

-- a refused question about a point
unanswered : {X : Type 0} (Says : X → Type 0) (s t : State) (p : Point) (r : Refusal) → AnswersNot s p r t → (t.contents ≡ s.contents) × OfPoint s.contents.mosaic p Says (Err r)
unanswered Says s t p Outside not = (stayed s t not.0, not.1)
unanswered Says s t p Void not = (stayed s t not.0, not.1)
unanswered Says s t p NoMemory not = (stayed s t not, tt)
unanswered Says s t p Failed not = (ap (λ (u : State). u.contents) not.same, tt)
unanswered Says s t p Device not = (ap (λ (u : State). u.contents) not.fails, tt)
unanswered Says s t p r not = absurd not

unelevated : (Says : Height → Type 0) (s t : State) (r : Refusal) → ElevatesNot s r t → (t.contents ≡ s.contents) × OfAny Says (Err r)
unelevated Says s t Failed not = (ap (λ (u : State). u.contents) not.same, tt)
unelevated Says s t Device not = (ap (λ (u : State). u.contents) not.fails, tt)
unelevated Says s t r not = absurd not

of_tile : {X : Type 0} (Says : Mosaic → Corner → List X → Type 0) (s t : State) (c : Corner) (result : Result (Vec X) Refusal) → TellsTile Says s c (items_in result) t
    → (t.contents ≡ s.contents) × OfTile s.contents.mosaic c (Says s.contents.mosaic c) result
of_tile Says s t c (Ok xs) tells = (stayed s t tells.0, tells.1)
of_tile Says s t c (Err Failed) not = (ap (λ (u : State). u.contents) not.same, tt)
of_tile Says s t c (Err Device) not = (ap (λ (u : State). u.contents) not.fails, tt)
of_tile Says s t c (Err NoMemory) not = (stayed s t not, tt)
of_tile Says s t c (Err NoTile) not = (stayed s t not.0, not.1)
of_tile Says s t c (Err r) not = absurd not

unlisted : {X : Type 0} (Says : X → Type 0) (s t : State) (r : Refusal) → ListsNot s r t → (t.contents ≡ s.contents) × OfAny Says (Err r)
unlisted Says s t Failed not = (ap (λ (u : State). u.contents) not.same, tt)
unlisted Says s t NoMemory not = (stayed s t not, tt)
unlisted Says s t r not = absurd not

-- A question leaves the contents unchanged.
pub leaves : (capacity : ℕ) (s t : State) (event : Event) (answer : Reply) → OnlyAsks event → Happens capacity s event answer t → t.contents ≡ s.contents
leaves capacity s t (ask.Do c) answer only is = absurd only
leaves capacity s t ask.Step answer only is = absurd only
leaves capacity s t ask.Reopen answer only is = absurd only
leaves capacity s t ask.Count (reply.Count k) only is = ap (λ (u : State). u.contents) is.1
leaves capacity s t (ask.Elevation p) (reply.Elevation x) only is = stayed s t is.0
leaves capacity s t (ask.Elevation p) (reply.Refused r) only not = (unelevated (λ h. Unit {0}) s t r not).0
leaves capacity s t (ask.Fill p) (reply.Fill x) only is = stayed s t is.0
leaves capacity s t (ask.Fill p) (reply.Refused r) only not = (unanswered {X = ℕ} (λ x. Unit {0}) s t p r not).0
leaves capacity s t (ask.Direction p) (reply.Direction x) only is = stayed s t is.0
leaves capacity s t (ask.Direction p) (reply.Refused r) only not = (unanswered {X = ℕ} (λ x. Unit {0}) s t p r not).0
leaves capacity s t (ask.Trace p) (reply.Trace x) only is = stayed s t is.0
leaves capacity s t (ask.Trace p) (reply.Refused r) only not = (unanswered {X = ℕ} (λ x. Unit {0}) s t p r not).0
leaves capacity s t (ask.Watershed p) (reply.Watershed x) only is = stayed s t is.0
leaves capacity s t (ask.Watershed p) (reply.Refused r) only not = (unanswered {X = ℕ} (λ x. Unit {0}) s t p r not).0
leaves capacity s t (ask.Export c) (reply.Export x) only is = stayed s t is.0
leaves capacity s t (ask.Export c) (reply.Refused r) only not = (of_tile {X = ℕ} (λ m k xs. Unit {0}) s t c (Err r) not).0
leaves capacity s t (ask.Levels c) (reply.Levels x) only is = stayed s t is.0
leaves capacity s t (ask.Levels c) (reply.Refused r) only not = (of_tile {X = ℕ} (λ m k xs. Unit {0}) s t c (Err r) not).0
leaves capacity s t (ask.Directions c) (reply.Directions x) only is = stayed s t is.0
leaves capacity s t (ask.Directions c) (reply.Refused r) only not = (of_tile {X = ℕ} (λ m k xs. Unit {0}) s t c (Err r) not).0
leaves capacity s t (ask.Upstream c) (reply.Upstream x) only is = stayed s t is.0
leaves capacity s t (ask.Upstream c) (reply.Refused r) only not = (of_tile {X = ℕ} (λ m k xs. Unit {0}) s t c (Err r) not).0
leaves capacity s t ask.Tiles (reply.Tiles x) only is = stayed s t is.0
leaves capacity s t ask.Tiles (reply.Refused r) only not = (unlisted {X = ℕ} (λ x. Unit {0}) s t r not).0
leaves capacity s t ask.Sinks (reply.Sinks x) only is = stayed s t is.0
leaves capacity s t ask.Sinks (reply.Refused r) only not = (unlisted {X = ℕ} (λ x. Unit {0}) s t r not).0
leaves capacity s t ask.Info (reply.Info x) only is = stayed s t is.0
leaves capacity s t ask.Info (reply.Refused r) only not = (unlisted {X = ℕ} (λ x. Unit {0}) s t r not).0
leaves capacity s t event answer only is = absurd is

abbrev pub IsLevel : Mosaic → Point → ℤ → Type 0
IsLevel m p level = IsFilledLevel (terrain m) p level

abbrev pub IsCode : Mosaic → Point → ℕ → Type 0
IsCode m p code = IsAnswered m p (λ level. DrainsBy (terrain m) level p code)

abbrev pub AreRunsOf : Mosaic → Point → Vec Run → Type 0
AreRunsOf m p runs = IsAnswered m p (λ level. AreRuns (IsInWatershed (terrain m) level p) runs.items)

module _ {E : Type 0} (g : Ghosts E) (a b : E) where
  pub fill_told : (p : Point) (result : Result ℤ Refusal) → IsCall (members g) a (ask.Fill p) (answered reply.Fill result) b → Tells g a b 1 (refusal_of result) (λ m. OfPoint m p (IsLevel m p) result)
  fill_told p result call = asked_once g a b (ask.Fill p) reply.Fill tt (questions.answers_so {capacity = 0} (ask.Fill p) reply.Fill _ (questions.fill_asked p)) (λ answer e. e) result (λ m. OfPoint m p (IsLevel m p) result) call (fills result)
    where
      fills : (result : Result ℤ Refusal) (s t : State) → Happens (g.capacity_of a) s (ask.Fill p) (answered reply.Fill result) t → (t.contents ≡ s.contents) × OfPoint s.contents.mosaic p (IsLevel s.contents.mosaic p) result
      fills (Ok level) s t is = (stayed s t is.0, is.1)
      fills (Err r) s t not = unanswered (IsLevel s.contents.mosaic p) s t p r not

  pub direction_told : (p : Point) (result : Result ℕ Refusal) → IsCall (members g) a (ask.Direction p) (answered reply.Direction result) b → Tells g a b 1 (refusal_of result) (λ m. OfPoint m p (IsCode m p) result)
  direction_told p result call = asked_once g a b (ask.Direction p) reply.Direction tt (questions.answers_so {capacity = 0} (ask.Direction p) reply.Direction _ (questions.direction_asked p)) (λ answer e. e) result (λ m. OfPoint m p (IsCode m p) result) call (directs result)
    where
      directs : (result : Result ℕ Refusal) (s t : State) → Happens (g.capacity_of a) s (ask.Direction p) (answered reply.Direction result) t → (t.contents ≡ s.contents) × OfPoint s.contents.mosaic p (IsCode s.contents.mosaic p) result
      directs (Ok code) s t is = (stayed s t is.0, is.1)
      directs (Err r) s t not = unanswered (IsCode s.contents.mosaic p) s t p r not

  pub watershed_told : (p : Point) (result : Result (Vec Run) Refusal) → IsCall (members g) a (ask.Watershed p) (answered reply.Watershed result) b → Tells g a b 1 (refusal_of result) (λ m. OfPoint m p (AreRunsOf m p) result)
  watershed_told p result call = asked_once g a b (ask.Watershed p) reply.Watershed tt (questions.answers_so {capacity = 0} (ask.Watershed p) reply.Watershed _ (questions.watershed_asked p)) (λ answer e. e) result (λ m. OfPoint m p (AreRunsOf m p) result) call (sheds result)
    where
      sheds : (result : Result (Vec Run) Refusal) (s t : State) → Happens (g.capacity_of a) s (ask.Watershed p) (answered reply.Watershed result) t → (t.contents ≡ s.contents) × OfPoint s.contents.mosaic p (AreRunsOf s.contents.mosaic p) result
      sheds (Ok runs) s t is = (stayed s t is.0, is.1)
      sheds (Err r) s t not = unanswered (AreRunsOf s.contents.mosaic p) s t p r not

  -- A level, or a direction's code, is answered only for ground.
  pub level_told : (p : Point) (result : Result ℤ Refusal) (level same : ℤ) → result ≡ Ok level → level ≡ same → Tells g a b 1 (refusal_of result) (λ m. OfPoint m p (IsLevel m p) result) → Tells g a b 1 None (λ m. OfAny (IsLevelOrVoid m p) (Ok same))
  level_told p result level same is alike told =
      so_told g a b 1 1 None _ _ (subst (λ (r : Result ℤ Refusal). Tells g a b 1 (refusal_of r) (λ m. OfPoint m p (IsLevel m p) r)) is told) (λ some. some)
      (λ m filled. subst (IsLevelOrVoid m p) alike (record {
        on_ground = λ solid. filled;
        elsewhere = λ off. absurd (true≢false (sym (level_ground m p level filled) ∙ off));
      }))

  pub code_told : (p : Point) (result : Result ℕ Refusal) (code : ℕ) → result ≡ Ok code → Tells g a b 1 (refusal_of result) (λ m. OfPoint m p (IsCode m p) result) → Tells g a b 1 None (λ m. OfAny (IsCodeOrNone m p) (Ok code))
  code_told p result code is told =
      so_told g a b 1 1 None _ _ (subst (λ (r : Result ℕ Refusal). Tells g a b 1 (refusal_of r) (λ m. OfPoint m p (IsCode m p) r)) is told) (λ some. some)
      (λ m answered. record {
        on_ground = λ solid level filled. answered.says level filled;
        elsewhere = λ off. absurd (true≢false (sym answered.on_ground ∙ off));
      })

  module _ {X : Type 0} (Says : Mosaic → Corner → List X → Type 0) (c : Corner) where
    -- A tile's values were copied, or the slice had another length.
    pub copied : (found : Result (Vec X) Refusal) (values : Vec X) → found ≡ Ok values → Tells g a b 1 (refusal_of found) (λ m. OfTile m c (Says m c) found) → (into : List X) (result : Result (Unit {0}) Refusal)
        → MatchResult result (λ _. into ≡ values.items) (λ r. (r ≡ BadLength) × (length values.items ≢ length into)) → Tells g a b 1 (refusal_of result) (λ m. OfCopy m c (Says m c) into result)
    copied found values is told into (Ok u) same =
        so_told g a b 1 1 None _ _ (subst (λ (f : Result (Vec X) Refusal). Tells g a b 1 (refusal_of f) (λ m. OfTile m c (Says m c) f)) is told) (λ some. some)
        (λ m tells. (tells.0, subst (Says m c) (sym same) tells.1))
    copied found values is told into (Err r) other =
        told_as g a b 1 None (Some r) _ _ (subst (λ (f : Result (Vec X) Refusal). Tells g a b 1 (refusal_of f) (λ m. OfTile m c (Says m c) f)) is told)
        ((λ e. cc), (λ e. let no : r ≡ BadLength = other.0 in cc), (λ e. cc), (λ e. let no : r ≡ BadLength = other.0 in cc))
        (λ m tells. subst (λ (why : Refusal). OfCopy m c (Says m c) into (Err why)) (sym other.0) (tells.0, (values.items, (tells.1, other.1))))

    -- The values weren't answered.
    pub not_told : (found : Result (Vec X) Refusal) (r : Refusal) → found ≡ Err r → Tells g a b 1 (refusal_of found) (λ m. OfTile m c (Says m c) found) → (into : List X) → Tells g a b 1 (Some r) (λ m. OfCopy m c (Says m c) into (Err r))
    not_told found r is told into =
        so_told g a b 1 1 (Some r) _ _ (subst (λ (f : Result (Vec X) Refusal). Tells g a b 1 (refusal_of f) (λ m. OfTile m c (Says m c) f)) is told) (λ some. some) (λ m. refused m r)
      where
        refused : (m : Mosaic) (r : Refusal) → OfTile m c (Says m c) (Err r) → OfCopy m c (Says m c) into (Err r)
        refused m NoTile none = none
        refused m BadLength not = absurd not
        refused m r not = not

  pub upstream_told : (c : Corner) (result : Result (Vec ℕ) Refusal) → IsCall (members g) a (ask.Upstream c) (answered reply.Upstream result) b → Tells g a b 1 (refusal_of result) (λ m. OfTile m c (AreTileCounts m c) result)
  upstream_told c result call = asked_once g a b (ask.Upstream c) reply.Upstream tt (questions.answers_so {capacity = 0} (ask.Upstream c) reply.Upstream _ (questions.upstream_asked c)) (λ answer e. e) result (λ m. OfTile m c (AreTileCounts m c) result) call (tells result)
    where
      tells : (result : Result (Vec ℕ) Refusal) (s t : State) → Happens (g.capacity_of a) s (ask.Upstream c) (answered reply.Upstream result) t → (t.contents ≡ s.contents) × OfTile s.contents.mosaic c (AreTileCounts s.contents.mosaic c) result
      tells (Ok xs) s t is = of_tile AreTileCounts s t c (Ok xs) is
      tells (Err r) s t is = of_tile AreTileCounts s t c (Err r) is
