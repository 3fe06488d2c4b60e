-- A call's result as the answer to its event, for any engine.
use Rattle.std.proofs.Common.{◌≡◌, ◌≢◌, ◌⊎◌, inl, inr, ⊎_elim, ℕ, ℤ, ◌≤◌, Bool, true, false, IsTrue, true≢false, refl, sym, ap, ◌∙◌, subst}
use Rattle.std.specs.Prelude.{Result, Ok, Err, OnOk, IfErr, IsErrOf}
use Rattle.std.specs.Global.{Vec}
use Rattle.lattice.specs.Corners.{Corner}
use Rattle.lattice.specs.declared.height.Height.{Height}
use Rattle.lattice.specs.declared.point.Point.{Point}
use Rattle.lattice.specs.declared.refusal.Refusal.{Refusal}
use Rattle.lattice.specs.declared.refusal.Refusal.TheVariants.{Device, Failed}
use Rattle.catalogue.specs.Reading.{HasRisen}
use Rattle.edits.specs.declared.command.Command.{Command}
use Rattle.water.specs.declared.run.Run.{Run}
use Rattle.engine.specs.Engines.{answered, items_in}
use Rattle.engine.specs.Events.{SaysFailed, fails_after, Happens}
use Rattle.water.specs.TileLevels.{AreTileLevels}
use Rattle.water.specs.Questions.{AreTileCounts, AreTileDirections}
use Rattle.engine.specs.Outcomes.{Elevates, Exports, TellsTile, Lists, ListsSinks, Informs, Fills, Directs, Traces, Sheds}
use Rattle.engine.specs.State.{State}
use Rattle.engine.specs.Told.{Matches, may_refuse, IsTold, IsCounted, WritesFew, IsWritten, Known, Knows}
use Rattle.engine.specs.declared.event.Event.{Event}
use Rattle.engine.specs.declared.event.Event.TheVariants as ask
use Rattle.engine.specs.declared.event.Reply.{Reply}
use Rattle.engine.specs.declared.event.Reply.TheVariants as reply

-- A refusal is Device or another.
pub device_or_not : (r : Refusal) → (r ≡ Device) ⊎ (r ≢ Device)
device_or_not Device = inl refl
device_or_not r = inr (λ e. cc)

-- The event has answers of this kind. A call fails exactly if its answer is Device.
pub record IsAnswered {T : Type 0} (event : Event) (tell : T → Reply) : Type 0 where
  pub matches : (x : T) → Matches event (tell x)
  pub says : SaysFailed event (reply.Refused Failed)
  pub goes_on : (b : Bool) (x : T) → fails_after b event (tell x) ≡ b
  pub blames : (b : Bool) → fails_after b event (reply.Refused Device) ≡ true
  pub passes : (b : Bool) (r : Refusal) → r ≢ Device → fails_after b event (reply.Refused r) ≡ b
  pub no_refusal : (x : T) (r : Refusal) → tell x ≢ reply.Refused r

-- The event is a question: it only reads, and may be refused as a read is.
abbrev pub asks : Event → Bool
asks (ask.Do c) = false
asks ask.Step = false
asks ask.Count = false
asks ask.Reopen = false
asks event = true

-- The event is a question with these answers, in a store of this capacity.
pub record IsQuestion {T : Type 0} (capacity : ℕ) (event : Event) (tell : T → Reply) (Answers : State → Result T Refusal → State → Type 0) : Type 0 where
  pub asks_it : asks event ≡ true
  pub matches : (x : T) → Matches event (tell x)
  pub goes_on : (b : Bool) (x : T) → fails_after b event (tell x) ≡ b
  pub no_refusal : (x : T) (r : Refusal) → tell x ≢ reply.Refused r
  pub knows : (before after : Known) (x : T) → after ≡ before → Knows before event (tell x) after
  pub right : (s t : State) (x : T) → Answers s (Ok x) t → Happens capacity s event (tell x) t
  pub refused : (s t : State) (r : Refusal) → Answers s (Err r) t → Happens capacity s event (reply.Refused r) t

says_failed : (event : Event) → asks event ≡ true → SaysFailed event (reply.Refused Failed)
says_failed (ask.Do c) asked = refl
says_failed ask.Count asked = absurd (true≢false (sym asked))
says_failed ask.Reopen asked = absurd (true≢false (sym asked))
says_failed event asked = refl

blames_disk : (event : Event) (b : Bool) → fails_after b event (reply.Refused Device) ≡ true
blames_disk ask.Reopen b = refl
blames_disk event b = refl

passes_on : (event : Event) → event ≢ ask.Reopen → (b : Bool) (r : Refusal) → r ≢ Device → fails_after b event (reply.Refused r) ≡ b
passes_on ask.Reopen opens b r other = absurd (opens refl)
passes_on event opens b Device other = absurd (other refl)
passes_on event opens b r other = refl

pub knows_refused : (before after : Known) (event : Event) (r : Refusal) → after ≡ before → Knows before event (reply.Refused r) after
knows_refused before after ask.Count r same = same
knows_refused before after event r same = same

writes_nothing : (event : Event) → asks event ≡ true → (version side before now : ℕ) → now ≡ before → WritesFew version side event before now
writes_nothing (ask.Do c) asked version side before now same = absurd (true≢false (sym asked))
writes_nothing ask.Step asked version side before now same = absurd (true≢false (sym asked))
writes_nothing event asked version side before now same = same

module _ {T : Type 0} {capacity : ℕ} (event : Event) (tell : T → Reply) (Answers : State → Result T Refusal → State → Type 0) (is : IsQuestion capacity event tell Answers) where
  pub answers_so : IsAnswered event tell
  answers_so = record {
    matches = is.matches;
    says = says_failed event is.asks_it;
    goes_on = is.goes_on;
    blames = blames_disk event;
    passes = passes_on event (λ opens. true≢false (sym is.asks_it ∙ ap asks opens));
    no_refusal = is.no_refusal;
  }

  pub knows_as : (before after : Known) (result : Result T Refusal) → after ≡ before → Knows before event (answered tell result) after
  knows_as before after (Ok x) same = is.knows before after x same
  knows_as before after (Err r) same = knows_refused before after event r same

  pub right_as : (s t : State) (result : Result T Refusal) → Answers s result t → Happens capacity s event (answered tell result) t
  right_as s t (Ok x) right = is.right s t x right
  right_as s t (Err r) right = is.refused s t r right

  pub few_as : (version side before now : ℕ) → now ≡ before → WritesFew version side event before now
  few_as = writes_nothing event is.asks_it

module _ {T : Type 0} (event : Event) (tell : T → Reply) where
  told_anew : IsAnswered event tell → (after : Bool) (result : Result T Refusal) → IfErr result (λ r. IsTrue (may_refuse event r)) → OnOk result (after ≡ false) → (IsErrOf result Device → after ≡ true)
      → IfErr result (λ r. r ≢ Device → (r ≢ Failed) × (after ≡ false)) → IsTold false event (answered tell result) after
  told_anew is after (Ok x) causes works fails quiet = record {
    matches = is.matches x;
    says = λ failed. absurd (true≢false (sym failed));
    had_failed = λ e. absurd (is.no_refusal x Failed e);
    after_is = works ∙ sym (is.goes_on false x);
  }
  told_anew is after (Err r) causes works fails quiet = ⊎_elim device other (device_or_not r)
    where
      device : r ≡ Device → IsTold false event (reply.Refused r) after
      device same = record {
        matches = causes;
        says = λ failed. absurd (true≢false (sym failed));
        had_failed = λ e. absurd (cc);
        after_is = fails (ap (λ (x : Refusal). Err x) same) ∙ sym (ap (λ (x : Refusal). fails_after false event (reply.Refused x)) same ∙ is.blames false);
      }

      other : r ≢ Device → IsTold false event (reply.Refused r) after
      other not = record {
        matches = causes;
        says = λ failed. absurd (true≢false (sym failed));
        had_failed = λ e. absurd ((quiet not).0 (cc));
        after_is = (quiet not).1 ∙ sym (is.passes false r not);
      }

  pub told : IsAnswered event tell → (before after : Bool) (result : Result T Refusal) → IfErr result (λ r. IsTrue (may_refuse event r)) → (before ≡ true → (result ≡ Err Failed) × (after ≡ true))
      → OnOk result (after ≡ false) → (IsErrOf result Device → after ≡ true) → (before ≡ false → IfErr result (λ r. r ≢ Device → (r ≢ Failed) × (after ≡ false))) → IsTold before event (answered tell result) after
  told is false after result causes failed works fails quiet = told_anew is after result causes works fails (quiet refl)
  told is true after result causes failed works fails quiet =
      let had = failed refl in
      let matches : IsTrue (may_refuse event Failed) = subst (λ (r : Result T Refusal). IfErr r (λ x. IsTrue (may_refuse event x))) had.0 causes in
      subst (λ (r : Result T Refusal). IsTold true event (answered tell r) after) (sym had.0) (record {
        matches = matches;
        says = λ _. is.says;
        had_failed = λ _. refl;
        after_is = had.1 ∙ sym (is.passes true Failed (λ e. cc));
      })

  -- If the result is a refusal, so is the answer.
  refused_as : IsAnswered event tell → (result : Result T Refusal) (r : Refusal) → answered tell result ≡ reply.Refused r → IsErrOf result r
  refused_as is (Ok x) r e = absurd (is.no_refusal x r e)
  refused_as is (Err why) r e = let same : why ≡ r = cc in ap (λ (x : Refusal). Err x) same

  pub counted_so : IsAnswered event tell → (before now : ℕ) (result : Result T Refusal) → before ≤ now → (IsErrOf result Device → HasRisen before now) → IsCounted before (answered tell result) now
  counted_so is before now result later device = record { later = later; device = λ e. device (refused_as is result Device e) }

  unwritten_as : {X : Type 0} → IsAnswered event tell → (result : Result T Refusal) → IfErr result (λ r. r ≢ Device → X) → (r : Refusal) → answered tell result ≡ reply.Refused r → r ≢ Device → X
  unwritten_as is (Ok x) none r e other = absurd (is.no_refusal x r e)
  unwritten_as is (Err why) none r e other = none (λ device. other (let same : why ≡ r = cc in sym same ∙ device))

  pub written_so : IsAnswered event tell → (version side before now : ℕ) (result : Result T Refusal) → WritesFew version side event before now → IfErr result (λ r. r ≢ Device → now ≡ before)
      → IsWritten version side event (answered tell result) before now
  written_so is version side before now result few none = record { few = few; refused = unwritten_as is result none }

-- ---- commands and steps

pub command_answered : (c : Command) → IsAnswered (ask.Do c) reply.Done
command_answered c = record { matches = λ k. tt; says = refl; goes_on = λ b k. refl; blames = λ b. refl; passes = passes_on (ask.Do c) (λ e. cc); no_refusal = λ k r e. cc }

pub step_answered : IsAnswered ask.Step reply.Stepped
step_answered = record { matches = λ tile. tt; says = refl; goes_on = λ b tile. refl; blames = λ b. refl; passes = passes_on ask.Step (λ e. cc); no_refusal = λ tile r e. cc }

-- ---- the questions

pub elevation_asked : {capacity : ℕ} (p : Point) → IsQuestion capacity (ask.Elevation p) reply.Elevation (λ (s : State) (r : Result Height Refusal) (t : State). Elevates s p r t)
elevation_asked p = record { asks_it = refl; matches = λ x. tt; goes_on = λ b x. refl; no_refusal = λ x r e. cc; knows = λ before after x same. same; right = λ s t x is. is; refused = λ s t r is. is }

pub fill_asked : {capacity : ℕ} (p : Point) → IsQuestion capacity (ask.Fill p) reply.Fill (λ (s : State) (r : Result ℤ Refusal) (t : State). Fills s p r t)
fill_asked p = record { asks_it = refl; matches = λ x. tt; goes_on = λ b x. refl; no_refusal = λ x r e. cc; knows = λ before after x same. same; right = λ s t x is. is; refused = λ s t r is. is }

pub direction_asked : {capacity : ℕ} (p : Point) → IsQuestion capacity (ask.Direction p) reply.Direction (λ (s : State) (r : Result ℕ Refusal) (t : State). Directs s p r t)
direction_asked p = record { asks_it = refl; matches = λ x. tt; goes_on = λ b x. refl; no_refusal = λ x r e. cc; knows = λ before after x same. same; right = λ s t x is. is; refused = λ s t r is. is }

pub trace_asked : {capacity : ℕ} (p : Point) → IsQuestion capacity (ask.Trace p) reply.Trace (λ (s : State) (r : Result (Vec Point) Refusal) (t : State). Traces s p (items_in r) t)
trace_asked p = record { asks_it = refl; matches = λ x. tt; goes_on = λ b x. refl; no_refusal = λ x r e. cc; knows = λ before after x same. same; right = λ s t x is. is; refused = λ s t r is. is }

pub watershed_asked : {capacity : ℕ} (p : Point) → IsQuestion capacity (ask.Watershed p) reply.Watershed (λ (s : State) (r : Result (Vec Run) Refusal) (t : State). Sheds s p (items_in r) t)
watershed_asked p = record { asks_it = refl; matches = λ x. tt; goes_on = λ b x. refl; no_refusal = λ x r e. cc; knows = λ before after x same. same; right = λ s t x is. is; refused = λ s t r is. is }

pub export_asked : {capacity : ℕ} (c : Corner) → IsQuestion capacity (ask.Export c) reply.Export (λ (s : State) (r : Result (Vec ℕ) Refusal) (t : State). Exports s c (items_in r) t)
export_asked c = record { asks_it = refl; matches = λ x. tt; goes_on = λ b x. refl; no_refusal = λ x r e. cc; knows = λ before after x same. same; right = λ s t x is. is; refused = λ s t r is. is }

pub levels_asked : {capacity : ℕ} (c : Corner) → IsQuestion capacity (ask.Levels c) reply.Levels (λ (s : State) (r : Result (Vec ℤ) Refusal) (t : State). TellsTile AreTileLevels s c (items_in r) t)
levels_asked c = record { asks_it = refl; matches = λ x. tt; goes_on = λ b x. refl; no_refusal = λ x r e. cc; knows = λ before after x same. same; right = λ s t x is. is; refused = λ s t r is. is }

pub directions_asked : {capacity : ℕ} (c : Corner) → IsQuestion capacity (ask.Directions c) reply.Directions (λ (s : State) (r : Result (Vec ℕ) Refusal) (t : State). TellsTile AreTileDirections s c (items_in r) t)
directions_asked c = record { asks_it = refl; matches = λ x. tt; goes_on = λ b x. refl; no_refusal = λ x r e. cc; knows = λ before after x same. same; right = λ s t x is. is; refused = λ s t r is. is }

pub upstream_asked : {capacity : ℕ} (c : Corner) → IsQuestion capacity (ask.Upstream c) reply.Upstream (λ (s : State) (r : Result (Vec ℕ) Refusal) (t : State). TellsTile AreTileCounts s c (items_in r) t)
upstream_asked c = record { asks_it = refl; matches = λ x. tt; goes_on = λ b x. refl; no_refusal = λ x r e. cc; knows = λ before after x same. same; right = λ s t x is. is; refused = λ s t r is. is }

pub tiles_asked : {capacity : ℕ} → IsQuestion capacity ask.Tiles reply.Tiles (λ (s : State) (r : Result (Vec Corner) Refusal) (t : State). Lists s (items_in r) t)
tiles_asked = record { asks_it = refl; matches = λ x. tt; goes_on = λ b x. refl; no_refusal = λ x r e. cc; knows = λ before after x same. same; right = λ s t x is. is; refused = λ s t r is. is }

pub sinks_asked : {capacity : ℕ} → IsQuestion capacity ask.Sinks reply.Sinks (λ (s : State) (r : Result (Vec Point) Refusal) (t : State). ListsSinks s (items_in r) t)
sinks_asked = record { asks_it = refl; matches = λ x. tt; goes_on = λ b x. refl; no_refusal = λ x r e. cc; knows = λ before after x same. same; right = λ s t x is. is; refused = λ s t r is. is }

pub info_asked : {capacity : ℕ} → IsQuestion capacity ask.Info reply.Info (Informs capacity)
info_asked = record { asks_it = refl; matches = λ x. tt; goes_on = λ b x. refl; no_refusal = λ x r e. cc; knows = λ before after x same. same; right = λ s t x is. is; refused = λ s t r is. is }
