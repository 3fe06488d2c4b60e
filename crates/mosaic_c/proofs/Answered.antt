-- What a call says about its handle's store.
use Rattle.std.proofs.Common.{rules, ◌≡◌, ◌≢◌, ◌≤◌, ◌+◌, ℕ, ℤ, Bool, false, List, length, min, nat_le, if◌then◌else◌, inl, inr, arith, MatchResult, SFits, w16, w32, to_z, of_z, Option, Some, None, is_some, Result, Ok, Err, IfOk, IfErr, IsTrue, refl, sym, ap, ◌∙◌, subst}
use Rattle.std.proofs.lemmas.Bool.{both_ways}
use Rattle.std.proofs.lemmas.Int.{to_z-of_z}
use Rattle.disk.specs.Disk.{HasRisen}
use Rattle.lattice.specs.Corners.{Corner}
use Rattle.lattice.specs.declared.point.Point.{Point}
use Rattle.engine.specs.Events.{Happens, fails_after}
use Rattle.engine.specs.State.{Contents, State, working}
use Rattle.engine.specs.declared.event.Event.{Event}
use Rattle.engine.specs.declared.event.Event.TheVariants as ask
use Rattle.engine.specs.declared.event.Reply.{Reply}
use Rattle.engine.specs.declared.event.Reply.TheVariants as reply
use Rattle.engine.proofs.Chains.{not_reopened}
use Rattle.lattice.specs.Mosaic.{Mosaic}
use Rattle.lattice.specs.declared.refusal.Refusal.{Refusal}
use Rattle.lattice.specs.declared.refusal.Refusal.TheVariants.{Device, Failed}
use Rattle.lattice.specs.Refusals.{number_of}
use Rattle.engine.specs.declared.engine.Engine.{Ghosts}
use Rattle.image_disk.specs.ImageDisks.{failures_of}
use Rattle.image_disk.specs.contracts.ImageDiskDisk.TheImpl.{ghosts}
use Rattle.store.specs.Stores.{IsAt, capacity_of, disk_of, has_failed}
use Rattle.lines.specs.Questions.{OnlyAsks}
use Rattle.windows.specs.Lines.{IsNoQuestion, IsPut, IsReplied}
use Rattle.windows.proofs.Told.{leaves, unwritten}
use Rattle.windows.specs.Telling.{Asked, Tells, refusal_of}
use Rattle.mosaic_c.specs.Sessions.{BlamesNoDisk, IsOpen, IsOpenAt, Told, ToldLine, number_in}
use Rattle.mosaic_c.specs.declared.handle.Handle.{Handle}
use Rattle.mosaic_c.specs.declared.session.Session.{Session}

-- the handle has no store
pub not_held : {T : Type 0} (old new : Handle) (first : Option Refusal) (Says : Mosaic → Result T Refusal → Type 0) (number : ℕ) (value : T) → old.kept.session ≡ None → new.kept.session ≡ None → number ≡ number_of Failed → Told old new number value first Says
not_held {T} old new first Says number value none left failed =
    let closed : (capacity : ℕ) (contents : Contents) → IsOpenAt old.kept.session capacity contents → ⊥ = λ capacity contents open_at. subst (λ (o : Option Session). IsOpenAt o capacity contents) none open_at in
    record {
      result = Err Failed;
      number_is = failed;
      value_is = tt;
      closed = λ _. refl;
      stays = ap is_some left ∙ ap is_some (sym none);
      kept = λ capacity contents open_at. absurd (closed capacity contents open_at);
      refused = λ r is_first capacity contents open_at. absurd (closed capacity contents open_at);
      says = λ is_none capacity contents open_at. absurd (closed capacity contents open_at);
      sure = λ is_none capacity contents open_at. absurd (closed capacity contents open_at);
    }

err_of : {T : Type 0} (result : Result T Refusal) (r : Refusal) → refusal_of result ≡ Some r → result ≡ Err r
err_of (Ok x) r is = cc
err_of (Err other) r is = let same : other ≡ r = cc in ap (λ (why : Refusal). Err why) same

none_risen : (before now : ℕ) → before ≡ 0 → now ≡ 0 → HasRisen before now → ⊥
none_risen before now none still risen = let up : min (before + 1) 18446744073709551615 ≤ now = risen in omega (arith, none, still, up)

-- An engine that doesn't fail in a call hasn't failed after it.
works_on : (event : Event) (answer : Reply) → (event ≡ ask.Reopen → ⊥) → (answer ≡ reply.Refused Device → ⊥) → fails_after false event answer ≡ false
works_on ask.Reopen answer other fine = absurd (other refl)
works_on event (reply.Refused Device) other fine = absurd (fine refl)
works_on event answer other fine = refl

-- the facts about an engine that stays open
pub record Works {S : Type 0} (g : Ghosts S) (e : S) (capacity : ℕ) (contents : Contents) : Type 0 where
  pub at : g.is_at e (working contents)
  pub works : g.has_failed e ≡ false
  pub none : g.failures e ≡ 0
  pub takes : g.capacity_of e ≡ capacity

-- the facts about an engine, and what they follow from
pub record Knowing {S : Type 0} (g : Ghosts S) (store_of : Session → S) : Type 1 where
  pub honest : (e : S) → g.is_honest e
  pub has : (x : Session) (capacity : ℕ) (contents : Contents) → IsOpenAt (Some x) capacity contents → Works g (store_of x) capacity contents
  pub is_open : (x : Session) (capacity : ℕ) (contents : Contents) → (s : State) → g.is_at (store_of x) s → s.contents ≡ contents → g.has_failed (store_of x) ≡ false → g.failures (store_of x) ≡ 0
      → g.capacity_of (store_of x) ≡ capacity → IsOpenAt (Some x) capacity contents
  -- Only writes fail.
  pub faults : (e : S) → g.failures e ≡ g.writes e

module _ {S : Type 0} (g : Ghosts S) (store_of : Session → S) (know : Knowing g store_of) (old new : Handle) (held asked put : Session) (was : Some held ≡ old.kept.session) (is : asked ≡ held) (left : new.kept.session ≡ Some put) where
  before : (capacity : ℕ) (contents : Contents) → IsOpenAt old.kept.session capacity contents → Works g (store_of asked) capacity contents
  before capacity contents open_at = know.has asked capacity contents (subst (λ (o : Option Session). IsOpenAt o capacity contents) (sym was ∙ ap (λ (s : Session). Some s) (sym is)) open_at)

  after : (capacity : ℕ) (contents : Contents) (s : State) → g.is_at (store_of put) s → s.contents ≡ contents → g.has_failed (store_of put) ≡ false → g.failures (store_of put) ≡ 0 → g.capacity_of (store_of put) ≡ capacity
      → IsOpenAt new.kept.session capacity contents
  after capacity contents s at same works none takes = subst (λ (o : Option Session). IsOpenAt o capacity contents) (sym left) (know.is_open put capacity contents s at same works none takes)

  -- If nothing was written, no call has failed.
  none_after : (capacity : ℕ) (contents : Contents) → Works g (store_of asked) capacity contents → g.writes (store_of put) ≡ g.writes (store_of asked) → g.failures (store_of put) ≡ 0
  none_after capacity contents here written = know.faults (store_of put) ∙ written ∙ sym (know.faults (store_of asked)) ∙ here.none

  -- The refusal is neither Device nor Failed.
  not_blamed : {T : Type 0} (count : ℕ) (result : Result T Refusal) (Says : Mosaic → Type 0) → Tells g (store_of asked) (store_of put) count (refusal_of result) Says → (capacity : ℕ) (contents : Contents) → Works g (store_of asked) capacity contents
      → (r : Refusal) → refusal_of result ≡ Some r → BlamesNoDisk r
  not_blamed count result Says come capacity contents here r told = (
    (λ device. none_risen _ _ here.none (none_after capacity contents here come.writes) (come.device (told ∙ ap (λ (x : Refusal). Some x) device))),
    (λ failed. both_ways (g.has_failed (store_of asked)) here.works (come.failed (told ∙ ap (λ (x : Refusal). Some x) failed))),
  )

  sure_of : {T : Type 0} (result : Result T Refusal) → ((r : Refusal) → refusal_of result ≡ Some r → BlamesNoDisk r) → IfErr result BlamesNoDisk
  sure_of (Ok x) each = tt
  sure_of (Err r) each = each r refl

  told_so : {T : Type 0} (first : Option Refusal) (count : ℕ) (result : Result T Refusal) (Says : Mosaic → Result T Refusal → Type 0) (number : ℕ) (value : T)
      → Asked g (store_of asked) (store_of put) first count (refusal_of result) (λ m. Says m result) → number ≡ number_in result → IfOk result (λ x. value ≡ x) → Told old new number value first Says
  told_so None count result Says number value come number_is value_is = record {
    result = result;
    number_is = number_is;
    value_is = value_is;
    closed = λ none. let no : Some held ≡ None = was ∙ none in cc;
    stays = ap is_some left ∙ ap is_some was;
    kept = λ capacity contents open_at.
        let here = before capacity contents open_at in
        let next = come.kept (know.honest (store_of put)) contents (working contents, (here.at, refl)) in
        after capacity contents next.0 next.1.0 next.1.1 (come.stays (λ device. (not_blamed count result _ come capacity contents here Device device).0 refl) ∙ here.works) (none_after capacity contents here come.writes) (come.capacity ∙ here.takes);
    refused = λ r is_first. cc;
    says = λ none capacity contents open_at. come.says (know.honest (store_of put)) contents (working contents, ((before capacity contents open_at).at, refl));
    sure = λ none capacity contents open_at. sure_of result (not_blamed count result _ come capacity contents (before capacity contents open_at));
  }
  told_so (Some r) count result Says number value come number_is value_is = record {
    result = result;
    number_is = number_is;
    value_is = value_is;
    closed = λ none. let no : Some held ≡ None = was ∙ none in cc;
    stays = ap is_some left ∙ ap is_some was;
    kept = λ capacity contents open_at.
        let here = subst (λ (e : S). Works g e capacity contents) (sym come.1) (before capacity contents open_at) in
        after capacity contents (working contents) here.at refl here.works here.none here.takes;
    refused = λ other is_first capacity contents open_at. err_of result r come.0 ∙ (let same : r ≡ other = cc in ap (λ (why : Refusal). Err why) same);
    says = λ none. cc;
    sure = λ none. cc;
  }

  line_told_so : (line into : List ℕ) (result : Result ℕ Refusal) (number count : ℕ)
      → MatchResult result (λ n. IsReplied g (store_of asked) (store_of put) line into n) (λ r. IsNoQuestion line r × (store_of put ≡ store_of asked))
      → MatchResult result (λ n. (count ≡ n) × (number ≡ (if nat_le n (length into) then 0 else 3))) (λ r. number ≡ number_of r) → ToldLine old new line number count into
  line_told_so line into (Ok n) number count replied answer =
      let unopened : replied.event ≡ ask.Reopen → ⊥ = λ opens. subst OnlyAsks opens replied.asks.1 in
      let written = unwritten replied.event _ _ _ _ replied.asks.1 replied.call.writes.few in
      let fine : (capacity : ℕ) (contents : Contents) → Works g (store_of asked) capacity contents → (r : Refusal) → replied.answer ≡ reply.Refused r → BlamesNoDisk r =
      λ capacity contents here r refused. (
        (λ device. none_risen _ _ here.none (none_after capacity contents here written) (replied.call.failures.device (refused ∙ ap (λ (x : Refusal). reply.Refused x) device))),
        (λ failed. both_ways (g.has_failed (store_of asked)) here.works (replied.call.told.had_failed (refused ∙ ap (λ (x : Refusal). reply.Refused x) failed))),
      ) in
      let works : (capacity : ℕ) (contents : Contents) → Works g (store_of asked) capacity contents → g.has_failed (store_of put) ≡ false =
      λ capacity contents here. replied.call.told.after_is ∙ ap (λ b. fails_after b replied.event replied.answer) here.works
      ∙ works_on replied.event replied.answer unopened (λ device. (fine capacity contents here Device device).0 refl) in
      let taken = replied.call.capacity (not_reopened replied.event replied.answer unopened replied.call.told.matches) in
      let next : (capacity : ℕ) (contents : Contents) (here : Works g (store_of asked) capacity contents) → (t : State) × (g.is_at (store_of put) t × Happens (g.capacity_of (store_of asked)) (working contents) replied.event replied.answer t) =
      λ capacity contents here. let it = replied.call.happens (know.honest (store_of put)) (working contents) here.at in (it.0, (it.1.0, it.1.1)) in
      record {
        closed = λ none. let no : Some held ≡ None = was ∙ none in cc;
        stays = ap is_some left ∙ ap is_some was;
        kept = λ capacity contents open_at.
            let here = before capacity contents open_at in
            let it = next capacity contents here in
            after capacity contents it.0 it.1.0 (leaves (g.capacity_of (store_of asked)) (working contents) it.0 replied.event replied.answer replied.asks.1 it.1.1)
            (works capacity contents here) (none_after capacity contents here written) (taken ∙ here.takes);
        says = λ capacity contents open_at.
            let here = before capacity contents open_at in
            let it = next capacity contents here in
            inr (
              record {
                event = replied.event;
                asks = replied.asks;
                answer = replied.answer;
                after = it.0;
                happens = subst (λ (k : ℕ). Happens k (working contents) replied.event replied.answer it.0) here.takes it.1.1;
                sure = fine capacity contents here;
                text = replied.text;
                told = replied.told;
                put = subst (IsPut replied.text into) (sym answer.0) replied.put;
              },
              subst (λ k. number ≡ (if nat_le k (length into) then 0 else 3)) (sym answer.0) answer.1,
            );
      }
  line_told_so line into (Err r) number count not answer = record {
    closed = λ none. let no : Some held ≡ None = was ∙ none in cc;
    stays = ap is_some left ∙ ap is_some was;
    kept = λ capacity contents open_at.
        let here = subst (λ (e : S). Works g e capacity contents) (sym not.1) (before capacity contents open_at) in
        after capacity contents (working contents) here.at refl here.works here.none here.takes;
    says = λ capacity contents open_at. inl (r, (not.0, answer));
  }

module _ {S : Type 0} (g : Ghosts S) (store_of : Session → S) (old new : Handle) (held asked put : Session) (was : Some held ≡ old.kept.session) (is : asked ≡ held) (left : new.kept.session ≡ Some put) where
  -- A question was asked of the handle's session, which was put back.
  pub told : {T : Type 0} (first : Option Refusal) (count : ℕ) (result : Result T Refusal) (Says : Mosaic → Result T Refusal → Type 0) (number : ℕ) (value : T)
      → Asked g (store_of asked) (store_of put) first count (refusal_of result) (λ m. Says m result) → number ≡ number_in result → IfOk result (λ x. value ≡ x) → Knowing g store_of → Told old new number value first Says
  told first count result Says number value come number_is value_is know = told_so g store_of know old new held asked put was is left first count result Says number value come number_is value_is

  -- A line was asked of the handle's session.
  pub line_told : (line into : List ℕ) (result : Result ℕ Refusal) (number count : ℕ)
      → MatchResult result (λ n. IsReplied g (store_of asked) (store_of put) line into n) (λ r. IsNoQuestion line r × (store_of put ≡ store_of asked))
      → MatchResult result (λ n. (count ≡ n) × (number ≡ (if nat_le n (length into) then 0 else 3))) (λ r. number ≡ number_of r) → Knowing g store_of → ToldLine old new line number count into
  line_told line into result number count replied answer know = line_told_so g store_of know old new held asked put was is left line into result number count replied answer

-- facts about a store on an image
module _ (session : Session) (capacity : ℕ) (contents : Contents) where
  -- a state without a failure
  state_is : (s : State) → s.contents ≡ contents → s.failed ≡ false → s.doubt ≡ None → s ≡ working contents
  state_is s same works none = search rules

  pub opened : (s : State) → IsAt ghosts session.store s → s.contents ≡ contents → has_failed session.store ≡ false → failures_of (disk_of session.store) ≡ 0 → capacity_of session.store ≡ capacity
      → IsOpen session capacity contents
  opened s at same works none takes = record {
    at = subst (IsAt ghosts session.store) (state_is s same (sym at.in_state.failed_is ∙ works) (at.in_state.sound works).no_doubt) at;
    takes = takes;
    none_failed = none;
  }

-- a corner and a point, from numbers that C passed
pub of_corner : (Says : Corner → Type 0) (lat lon : ℤ) → SFits w16 lat → SFits w16 lon → Says (record { lat = to_z w16 (of_z w16 lat); lon = to_z w16 (of_z w16 lon) })
    → Says (record { lat = lat; lon = lon })
of_corner Says lat lon fits_lat fits_lon says =
    subst (λ (a : ℤ). Says (record { lat = a; lon = lon })) (to_z-of_z w16 lat fits_lat)
    (subst (λ (b : ℤ). Says (record { lat = to_z w16 (of_z w16 lat); lon = b })) (to_z-of_z w16 lon fits_lon) says)

pub of_point : (Says : Point → Type 0) (y x : ℤ) → SFits w32 y → SFits w32 x → Says (record { y = to_z w32 (of_z w32 y); x = to_z w32 (of_z w32 x) })
    → Says (record { y = y; x = x })
of_point Says y x fits_y fits_x says =
    subst (λ (a : ℤ). Says (record { y = a; x = x })) (to_z-of_z w32 y fits_y)
    (subst (λ (b : ℤ). Says (record { y = to_z w32 (of_z w32 y); x = b })) (to_z-of_z w32 x fits_x) says)
