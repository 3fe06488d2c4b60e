-- How a call that may commit ends (`EndsAt`), shown from the trees before and after its steps. It commits nothing, or it
-- commits changed contents.
use Rattle.std.proofs.Common.{rules}
use Rattle.stored_mosaic.proofs.Prelude.{Bool, Commits, Contents, Device, Ending, EndsAt, Err, Failed, Ghosts, Holds, IfErr, IfErr-weaker, IfOk, IfOk-weaker, Image, IsInState, IsTrue, LeavesOr, None, Ok, OnErr, OnOk, Option, Refusal, Result, RootValue, Some, Stands, StandsFor, StandsForState, State, Stored, Tree, Version, ℕ, ap, ap₂, disk_of, failing, false, has_failed, if_numbered, if◌then◌else◌, inl, inr, known_by, last_number, lt-ltb, never_refused, no_call_yet, not_called, number_of, ok_where, refl, refusal_is, root_of, settled_at, sinks_of, staged_in, sym, true, true≢false, working, ⊎_elim, ◌<◌, ◌∙◌, ◌≡◌, ◌≢◌, ◌⊎◌}
use Rattle.disk.specs.Stops.{LeavesOnly, weaker}
use Rattle.engine.specs.Steps.{Commits as IsCommit}
use Rattle.cow_tree.specs.Uncommitted.{CommitsNothing, Returns}
use Rattle.stored_mosaic.proofs.Reading.InMemory.{is_working}
use Rattle.stored_mosaic.proofs.Calls.Opened.{in_state}
use Rattle.stored_mosaic.proofs.Calls.States.{fails_in, stays_in}

-- what a root of the same version shows
pub known_as : (was root : RootValue) (count number : ℕ) → root.version ≡ was.version → root.count ≡ count → root.number ≡ number
    → known_by root ≡ record (known_by was) { count = count; number = number }
known_as was root count number version counted numbered = search rules

-- The answer isn't Device.
abbrev pub IsNoFault : {T : Type 0} → Result T Refusal → Type 0
IsNoFault answer = answer ≡ Err Device → ⊥

pub no_fault : {T : Type 0} (x : T) → IsNoFault (Ok x)
no_fault x is = never_refused x Device is

pub other_refusal : {T : Type 0} (r : Refusal) → r ≢ Device → IsNoFault {T = T} (Err r)
other_refusal r other is = other (refusal_is r is)

-- The commit that made these contents was in doubt, if the commit number could grow.
pub is_doubted : (was made : Contents) → was.number < last_number → if_numbered was (Some made) ≡ Some made
is_doubted was made less = ap (λ (b : Bool). if b then Some made else None) (lt-ltb was.number last_number less)

-- the same call, with another answer
returned_as : {D T U : Type 0} (g : Ghosts D) (old new : Tree D g) (was : Result U Refusal) (now : Result T Refusal) → Returns g old new was → (now ≡ Err Device → was ≡ Err Device) → OnOk now (has_failed new ≡ false) → Returns g old new now
returned_as g old new was now is same works = search rules

-- the call from each state that passes the test
module _ {D T : Type 0} (g : Ghosts D) (ending : Ending T) (old new : Tree D g) (works : has_failed old ≡ false) (Was : State → Type 0) (leads : (s : State) → Was s → IsInState g old s) where
  abbrev Ends : Result T Refusal → Type 0
  Ends result = EndsAt g ending result old new Was (λ t. IsInState g new t)

  abbrev stored_at : (s : State) → Was s → Stored
  stored_at s was = ((leads s was).sound works).stored

  -- The disk failed, and a stop leaves the contents, or those of the commit in doubt.
  fails_so : (doubt : State → Option Contents) → IsTrue (ending.may_refuse Device) → ((s : State) → Was s → ending.Happens s (Err Device) (failing s (doubt s)))
      → Returns {T = T} g old new (Err Device) → root_of new ≡ root_of old
      → (g.honest (disk_of new) → (s : State) → Was s → LeavesOnly g (disk_of old) (disk_of new) (LeavesOr g old s (failing s (doubt s))))
      → Ends (Err Device)
  fails_so doubt may happens returned root run = record {
    returns = returned;
    side = ap (λ (x : RootValue). x.side) root;
    capacity = ap (λ (x : RootValue). x.capacity) root;
    causes = may;
    quiet = λ _ not_device. absurd (not_device refl);
    known = tt;
    last_known = root;
    unwritten = λ not_device. absurd (not_device refl);
    idle = tt;
    outcome = λ h s was.
        let at = leads s was in
        let fault : State = failing s (doubt s) in (
          fault,
          (
            fails_in g old new root returned.size s at (returned.fails refl) fault refl refl (λ image may. ⊎_elim (λ before. inl before) (λ is. is) ((run h s was).now image may)),
            happens s was,
            λ _. run h s was,
          ),
        );
  }

  -- ---- nothing was committed

  module _ {U : Type 0} (result : Result U Refusal) (done : CommitsNothing g old new result) where
    stays : g.honest (disk_of new) → (s : State) → Was s → (t : State) → LeavesOnly g (disk_of old) (disk_of new) (LeavesOr g old s t)
    stays honest s was t =
        let sound = (leads s was).sound works in
        weaker g (disk_of old) (disk_of new) (λ image. Stands (g.size (disk_of old)) image sound.stored) (LeavesOr g old s t) (λ image stands. inl (sound.stored, stands, sound.holds))
        (done.run honest sound.stored sound.tree)

    -- the case of a failed disk
    pub fails_before : (doubt : State → Option Contents) → IsTrue (ending.may_refuse Device) → ((s : State) → Was s → ending.Happens s (Err Device) (failing s (doubt s))) → result ≡ Err Device → Ends (Err Device)
    fails_before doubt may happens is =
        fails_so doubt may happens (returned_as g old new result (Err Device) done.returns (λ _. is) tt) done.root (λ h s was. stays h s was (failing s (doubt s)))

    -- the case of a disk that didn't fail
    module _ (still : has_failed new ≡ false) (clean : g.honest (disk_of new) → (s : State) → (was : Was s) → (staged_in g new ≡ (stored_at s was).tiles) × (sinks_of new ≡ (stored_at s was).sinks)) where
      in_same_state : g.honest (disk_of new) → (s : State) → Was s → IsInState g new s
      in_same_state honest s was =
          let at = leads s was in
          let sound = at.sound works in
          stays_in g old new done.root done.returns.size s at still (is_working g old works s at) (λ image may. ⊎_elim (λ before. inl before) (λ is. is) ((stays honest s was s).now image may)) sound
          (done.at honest sound.stored sound.tree still) (clean honest s was).0 (clean honest s was).1

      -- an answer that leaves the state unchanged
      pub quiet : (answer : Result T Refusal) → IsNoFault answer → IfErr answer (λ r. IsTrue (ending.may_refuse r) × (r ≢ Failed)) → IfOk answer (λ x. ending.Knows (root_of old) x (root_of new))
          → g.writes (disk_of new) ≡ g.writes (disk_of old) → (g.honest (disk_of new) → (s : State) → Was s → ending.Happens s answer s) → Ends answer
      quiet answer other own known unwritten happens = record {
        returns = returned_as g old new result answer done.returns (λ is. absurd (other is)) (ok_where answer still);
        side = ap (λ (x : RootValue). x.side) done.root;
        capacity = ap (λ (x : RootValue). x.capacity) done.root;
        causes = IfErr-weaker answer _ _ (λ r is. is.0) own;
        quiet = λ _. IfErr-weaker answer _ _ (λ r is _. (is.1, still)) own;
        known = known;
        last_known = last answer;
        unwritten = IfErr-weaker answer _ _ (λ r _ _. unwritten) own;
        idle = IfOk-weaker answer _ _ (λ x _ _. unwritten) known;
        outcome = λ honest s was. (s, (in_same_state honest s was, happens honest s was, λ _. stays honest s was s));
      }
        where
          last : (a : Result T Refusal) → OnErr a (root_of new ≡ root_of old)
          last (Ok x) = tt
          last (Err r) = done.root

  -- ---- a commit of changed contents

  module _ (made : State → Contents) (Makes : Stored → Stored) (holds : g.honest (disk_of new) → (s : State) → (was : Was s) → Holds (root_of old).side (root_of old).capacity (Makes (stored_at s was)) (made s)) where
    -- A stop leaves the old contents or the new ones.
    run_to : {U : Type 0} (result : Result U Refusal) → Commits g Makes old new result → g.honest (disk_of new) → (s : State) → Was s → (t : State)
        → ((image : Image) → StandsFor (g.size (disk_of old)) (root_of old).side (root_of old).capacity image (made s) → StandsForState (g.size (disk_of old)) (root_of old).side (root_of old).capacity image t)
        → LeavesOnly g (disk_of old) (disk_of new) (LeavesOr g old s t)
    run_to result commits h s was t leads_to =
        let sound = (leads s was).sound works in
        weaker g (disk_of old) (disk_of new) (λ image. Stands (g.size (disk_of old)) image sound.stored ⊎ Stands (g.size (disk_of old)) image (Makes sound.stored)) (LeavesOr g old s t)
        (λ image. ⊎_elim (λ before. inl (sound.stored, before, sound.holds)) (λ is. inr (leads_to image (Makes sound.stored, is, holds h s was)))) (commits.run h sound.stored sound.tree)

    -- The commit was refused.
    pub fails_in_commit : (doubt : State → Option Contents) → (g.honest (disk_of new) → (s : State) → Was s → doubt s ≡ Some (made s)) → IsTrue (ending.may_refuse Device)
        → ((s : State) → Was s → ending.Happens s (Err Device) (failing s (doubt s))) → Commits {T = Unit {0}} g Makes old new (Err Device) → Ends (Err Device)
    fails_in_commit doubt doubted may happens commits =
        fails_so doubt may happens (returned_as g old new (Err Device) (Err Device) commits.returns (λ _. refl) tt) commits.last_known
        (λ h s was. run_to (Err Device) commits h s was (failing s (doubt s)) (λ image is. inr (made s, doubted h s was, is)))

    -- The commit was made.
    pub commits_it : (answer : T) → Commits {T = Unit {0}} g Makes old new (Ok tt) → ending.Knows (root_of old) answer (root_of new) → ending.is_idle answer ≡ false → (g.honest (disk_of new) → g.may (disk_of new) (g.seen (disk_of new)))
        → (g.honest (disk_of new) → (s : State) → Was s → ending.Happens s (Ok answer) (working (made s))) → Ends (Ok answer)
    commits_it answer commits known busy seen happens = record {
      returns = returned_as g old new (Ok tt) (Ok answer) commits.returns (λ is. never_refused answer Device is) commits.returns.works;
      side = commits.side;
      capacity = commits.capacity;
      causes = tt;
      quiet = λ _. tt;
      known = known;
      last_known = tt;
      unwritten = tt;
      idle = λ is. absurd (true≢false (sym is ∙ busy));
      outcome = λ h s was.
          let stored = stored_at s was in
          let now = commits.at h stored ((leads s was).sound works).tree in
          let settled = settled_at g new (Makes stored) commits.clean.unstaged commits.declared now (seen h) in (
            working (made s),
            (
              in_state g new (Makes stored) now settled.tiles (seen h) commits.declared (root_of old).side (root_of old).capacity (made s) (holds h s was),
              happens h s was,
              λ _. run_to (Ok tt) commits h s was (working (made s)) (λ image is. inl is),
            ),
          );
    }

  -- the state after a commit of these contents, if the commit number could grow
  pub commits_made : (made : State → Contents) (s : State) → Was s → s.contents.number < last_number → IsCommit s (made s) (working (made s))
  commits_made made s was room = search rules

-- the case of a store that had failed
pub had_failed : {D T : Type 0} (g : Ghosts D) (ending : Ending T) (tree : Tree D g) (Was : State → Type 0) → ((s : State) → Was s → IsInState g tree s) → has_failed tree ≡ true → IsTrue (ending.may_refuse Failed)
    → ((s : State) → s.failed ≡ true → ending.Happens s (Err Failed) s) → EndsAt g ending (Err Failed) tree tree Was (λ t. IsInState g tree t)
had_failed {D} {T} g ending tree Was leads fails may happens =
    let no_device : IsNoFault {T = T} (Err Failed) = other_refusal Failed (λ is. cc) in
    record {
      returns = not_called g tree tree (Err Failed) (no_call_yet g tree) tt no_device;
      side = refl;
      capacity = refl;
      causes = may;
      quiet = λ works. absurd (true≢false (sym fails ∙ works));
      known = tt;
      last_known = refl;
      unwritten = λ _. refl;
      idle = tt;
      outcome = λ h s was. let at = leads s was in (s, (at, happens s (sym at.failed_is ∙ fails), λ works. absurd (true≢false (sym fails ∙ at.failed_is ∙ works))));
    }
