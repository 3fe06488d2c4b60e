-- Pages written one after another.
use Rattle.std.proofs.Common.{rules}
use Rattle.cow_tree.proofs.Prelude.{All-head, Bool, Contains, Device, EachStores, Err, Ghosts, IfErr, Image, KeepsBut, List, Ok, OnErr, OnOk, Refusal, Result, Roots, SamePagesBut, StoresAt, WritesPages, ℕ, [], apart_head, arith, false, false≢true, if◌then◌else◌, length, length-append, reached, refl, subst, sym, times, times-append, true, ◌++◌, ◌+◌, ◌∙◌, ◌∷◌, ◌≡◌, ◌≤◌}
use Rattle.disk.specs.Stops.{LeavesOnly, HasCause, in_turn, nothing_done, weaker}
use Rattle.roots.specs.Roots.{disk_of, root_of, has_begun, has_failed, IsReady}
use Rattle.cow_tree.proofs.Listed.Counting.{all_of_fewer}
use Rattle.cow_tree.proofs.Standing.{All-front, All-back, stores_kept_but}
use Rattle.cow_tree.proofs.Steps.{on_ok, stores_along}

-- These pages were written, and no call was refused.
abbrev pub HasWritten : {D : Type 0} (g : Ghosts D) → List ℕ → Roots D g → Roots D g → Type 0
HasWritten g pages old new = WritesPages {T = Unit {0}} g pages old new (Ok tt)

-- The writes that begin a commit are counted once.
first_counted : (began begins : Bool) (before now : ℕ) → now ≤ before + (if began then 1 else 2) → begins ≡ true → now + (if begins then 0 else 1) ≤ before + 1 + (if began then 0 else 1)
first_counted true begins before now few begun = subst (λ (b : Bool). now + (if b then 0 else 1) ≤ before + 1 + 0) (sym begun) (omega (arith, few))
first_counted false begins before now few begun = subst (λ (b : Bool). now + (if b then 0 else 1) ≤ before + 1 + 1) (sym begun) (omega (arith, few))

few_counted : (began : Bool) (before now : ℕ) → now ≤ before + (if began then 1 else 2) → now ≤ before + 1 + (if began then 0 else 1)
few_counted true before now few = omega (arith, few)
few_counted false before now few = omega (arith, few)

-- No page is written yet.
pub nothing_written : {D : Type 0} (g : Ghosts D) → ((disk : D) (c : Image) → g.honest disk → g.since disk (g.moment disk) c → g.may disk c) → (roots : Roots D g) → has_failed roots ≡ false → HasWritten g [] roots roots
nothing_written g only_now roots works = search rules

module _ {D : Type 0} (g : Ghosts D) where
  -- One page is written.
  pub one_written : (old new : Roots D g) (p : ℕ) (r : Result (Unit {0}) Refusal) → g.size (disk_of new) ≡ g.size (disk_of old) → HasCause (g.failures (disk_of old)) (g.failures (disk_of new)) r → IfErr r (λ why. why ≡ Device)
      → g.writes (disk_of new) ≤ g.writes (disk_of old) + (if has_begun old then 1 else 2) → OnOk r (has_begun new ≡ true) → (g.honest (disk_of new) → g.honest (disk_of old)) → root_of new ≡ root_of old
      → OnOk r (has_failed new ≡ false) → OnErr r (has_failed new ≡ true) → (g.honest (disk_of new) → IsReady g old → OnOk r (IsReady g new))
      → (g.honest (disk_of new) → OnOk r (SamePagesBut p (g.seen (disk_of old)) (g.seen (disk_of new))))
      → (g.honest (disk_of new) → IsReady g old → LeavesOnly g (disk_of old) (disk_of new) (KeepsBut p (root_of old) (g.may (disk_of old))))
      → WritesPages g (p ∷ []) old new r
  one_written old new p r size cause refused few begun honest root works failed ready others run = record {
    size = size;
    cause = cause;
    refused = refused;
    few = few_counted (has_begun old) (g.writes (disk_of old)) (g.writes (disk_of new)) few;
    writes = on_ok r (first_counted (has_begun old) (has_begun new) (g.writes (disk_of old)) (g.writes (disk_of new)) few) begun;
    honest = honest;
    root = root;
    works = works;
    failed = failed;
    ready = ready;
    others = λ is. on_ok r (λ same q low absent. same q low (λ e. apart_head q p [] absent (sym e))) (others is);
    any_moment = λ is was tiles s none each.
        weaker g (disk_of old) (disk_of new) (KeepsBut p (root_of old) (g.may (disk_of old))) (StoresAt (g.size (disk_of old)) (root_of old) tiles s)
        (stores_kept_but p (g.size (disk_of old)) (root_of old) tiles s (g.may (disk_of old)) each (All-head (λ q. ¬ Contains (reached tiles) q) p [] none)) (run is was);
  }

  -- More pages are written after the first.
  pub then_written : (old mid new : Roots D g) (xs ys : List ℕ) (r : Result (Unit {0}) Refusal) → HasWritten g xs old mid → WritesPages g ys mid new r → WritesPages g (xs ++ ys) old new r
  then_written old mid new xs ys r first second =
      let long = length-append xs ys in
      let counted : g.writes (disk_of mid) + (if has_begun mid then 0 else 1) ≤ g.writes (disk_of old) + length xs + (if has_begun old then 0 else 1) = first.writes in
      record {
        size = second.size ∙ first.size;
        cause = record { later = omega (arith, first.cause.later, second.cause.later); failed = λ is. let risen = second.cause.failed is in omega (arith, risen, first.cause.later) };
        refused = second.refused;
        few = omega (arith, counted, second.few, long);
        writes = on_ok r (λ more. omega (arith, counted, more, long)) second.writes;
        honest = λ is. first.honest (second.honest is);
        root = second.root ∙ first.root;
        works = second.works;
        failed = second.failed;
        ready = λ is was. second.ready is (first.ready (second.honest is) was);
        others = λ is. on_ok r (λ same p low none. let split = times-append p xs ys in first.others (second.honest is) p low (omega (arith, none, split)) ∙ same p low (omega (arith, none, split))) (second.others is);
        any_moment = λ is was tiles s none each.
            let mid_honest = second.honest is in
            let before = first.any_moment mid_honest was tiles s (All-front (λ q. ¬ Contains (reached tiles) q) xs ys none) each in
            let between : EachStores g mid tiles s = λ image may. stores_along (g.size (disk_of old)) (g.size (disk_of mid)) (root_of old) (root_of mid) tiles tiles s image first.size first.root refl (before.now image may) in
            in_turn g (disk_of old) (disk_of mid) (disk_of new) (StoresAt (g.size (disk_of old)) (root_of old) tiles s) before
            (weaker g (disk_of mid) (disk_of new) (StoresAt (g.size (disk_of mid)) (root_of mid) tiles s) (StoresAt (g.size (disk_of old)) (root_of old) tiles s)
            (λ image stores. stores_along (g.size (disk_of mid)) (g.size (disk_of old)) (root_of mid) (root_of old) tiles tiles s image (sym first.size) (sym first.root) refl stores)
            (second.any_moment is (first.ready mid_honest was) tiles s (All-back (λ q. ¬ Contains (reached tiles) q) xs ys none) between));
      }

-- A refused call wrote only some of the pages.
pub refused_within : {D : Type 0} (g : Ghosts D) (xs ys : List ℕ) (old new : Roots D g) (why : Refusal) → length xs ≤ length ys → ((q : ℕ) → times q xs ≤ times q ys)
    → WritesPages {T = Unit {0}} g xs old new (Err why) → WritesPages {T = Unit {0}} g ys old new (Err why)
refused_within g xs ys old new why le fewer had = record {
  size = had.size;
  cause = had.cause;
  refused = had.refused;
  few = omega (arith, had.few, le);
  writes = tt;
  honest = had.honest;
  root = had.root;
  works = tt;
  failed = had.failed;
  ready = λ _ _. tt;
  others = λ _. tt;
  any_moment = λ is was tiles s none each. had.any_moment is was tiles s (all_of_fewer (λ q. ¬ Contains (reached tiles) q) xs ys fewer none) each;
}
