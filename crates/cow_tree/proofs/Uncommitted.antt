-- Calls that commit nothing: one call, and one after another.
use Rattle.std.proofs.Common.{rules}
use Rattle.std.proofs.Common.{◌≡◌, false, true, List, All, Contains, Result, Ok, Err, OnOk, IsErrOf, refl, sym, ap, ◌∙◌, subst, arith, ℕ, IsErrAnd, is_err}
use Rattle.disk.specs.Disk.{Image, HasRisen}
use Rattle.cow_tree.proofs.Prelude.{AreStaged, Device, EachStores, Ghosts, HasOnlyRead, LeavesOnly, NoMemory, PageMapValue, Refusal, RootValue, Roots, Stands, Stored, StoresAt, Tree, WritesPages, format_of, in_turn, nothing_done, reached, weaker}
use Rattle.roots.specs.Roots.{IsReady, disk_of as disk_under, root_of as root_under, has_begun as have_begun, has_failed as have_failed}
use Rattle.cow_tree.specs.Trees.{disk_of, has_failed, IsAt}
use Rattle.cow_tree.proofs.Steps.{failed_where, ok_where, ok_where_works, on_ok, stands, stores_along}
use Rattle.cow_tree.specs.Uncommitted.{CommitsNothing, MakesNoCall, Returns}

-- the answer of a caller that passes a refusal on
pub refused_as : {T : Type 0} (result : Result T Refusal) (r : Refusal) → IsErrAnd result (λ why. why ≡ r) → result ≡ Err r
refused_as (Ok x) r is = absurd is
refused_as (Err why) r same = ap (λ (x : Refusal). Err x) same

pub refusal_is : {T : Type 0} (r : Refusal) → ◌≡◌ {A = Result T Refusal} (Err r) (Err Device) → r ≡ Device
refusal_is r e = cc

module _ {D : Type 0} (g : Ghosts D) where
  -- Each image that a stop may leave stores what the tree stores.
  pub each_stands : (tree : Tree D g) (s : Stored) → IsAt g tree s → (image : Image) → g.may (disk_of tree) image → Stands (g.size (disk_of tree)) image s
  each_stands tree s at image may = (tree.roots.root, tree.page_map.committed, at.each image may)

  abbrev pub OnlyNow : Type 0
  OnlyNow = (disk : D) (c : Image) → g.honest disk → g.since disk (g.moment disk) c → g.may disk c

  -- No call of the disk was made so far.
  pub no_call_yet : (tree : Tree D g) → MakesNoCall tree tree
  no_call_yet tree = record { disk = refl; root = refl; failed = refl; begun = refl }

  pub no_call_twice : (old mid new : Tree D g) → MakesNoCall old mid → MakesNoCall mid new → MakesNoCall old new
  no_call_twice old mid new first second = record { disk = second.disk ∙ first.disk; root = second.root ∙ first.root; failed = second.failed ∙ first.failed; begun = second.begun ∙ first.begun }

  -- A call that makes no call of the disk commits nothing.
  pub not_called : {T : Type 0} (old new : Tree D g) (result : Result T Refusal) → MakesNoCall old new → OnOk result (has_failed new ≡ false) → (IsErrOf result Device → ⊥) → Returns g old new result
  not_called old new result makes works other = search rules

  pub in_memory : {T : Type 0} (old new : Tree D g) (result : Result T Refusal) → OnlyNow → MakesNoCall old new → has_failed old ≡ false → (g.honest (disk_of old) → (s : Stored) → IsAt g old s → IsAt g new s)
      → (IsErrOf result Device → ⊥) → CommitsNothing g old new result
  in_memory old new result only_now makes works at other = record {
    returns = not_called old new result makes (ok_where result (makes.failed ∙ works)) other;
    root = makes.root;
    at = λ h s was _. at (subst g.honest makes.disk h) s was;
    run = λ h s was.
        subst (λ (disk : D). LeavesOnly g (disk_of old) disk (λ image. Stands (g.size (disk_of old)) image s)) (sym makes.disk)
        (weaker g (disk_of old) (disk_of old) (g.may (disk_of old)) (λ image. Stands (g.size (disk_of old)) image s) (each_stands old s was)
        (nothing_done g (disk_of old) (only_now (disk_of old)) (subst g.honest makes.disk h)).run);
  }

  -- a call after one that wasn't refused
  pub returns_on : {T U : Type 0} (old mid new : Tree D g) (x : T) (result : Result U Refusal) → Returns g old mid (Ok x) → Returns g mid new result → Returns g old new result
  returns_on old mid new x result first second = search rules

  pub uncommitted_on : {T U : Type 0} (old mid new : Tree D g) (x : T) (result : Result U Refusal) → CommitsNothing g old mid (Ok x) → CommitsNothing g mid new result → CommitsNothing g old new result
  uncommitted_on old mid new x result first second =
      record {
        returns = returns_on old mid new x result first.returns second.returns;
        root = second.root ∙ first.root;
        at = λ h s was now. second.at h s (first.at (second.returns.honest h) s was first.returns.works) now;
        run = λ h s was.
            in_turn g (disk_of old) (disk_of mid) (disk_of new) (λ image. Stands (g.size (disk_of old)) image s) (first.run (second.returns.honest h) s was)
            (subst (λ (sectors : ℕ). LeavesOnly g (disk_of mid) (disk_of new) (λ image. Stands sectors image s)) first.returns.size
            (second.run h s (first.at (second.returns.honest h) s was first.returns.works)));
      }

  -- A call whose staged pages are dropped commits nothing.
  pub given_up : {T : Type 0} (old mid new : Tree D g) (result : Result T Refusal) → CommitsNothing g old mid result → MakesNoCall mid new → (g.honest (disk_of mid) → (s : Stored) → IsAt g mid s → IsAt g new s)
      → CommitsNothing g old new result
  given_up old mid new result done makes at = record {
    returns = record {
      size = ap g.size makes.disk ∙ done.returns.size;
      later = let same = ap g.failures makes.disk in omega (arith, same, done.returns.later);
      device = λ is. subst (λ (disk : D). HasRisen (g.failures (disk_of old)) (g.failures disk)) (sym makes.disk) (done.returns.device is);
      works = on_ok result (λ w. makes.failed ∙ w) done.returns.works;
      fails = λ is. makes.failed ∙ done.returns.fails is;
      honest = λ h. done.returns.honest (subst g.honest makes.disk h);
    };
    root = makes.root ∙ done.root;
    at = λ h s was now. at (subst g.honest makes.disk h) s (done.at (subst g.honest makes.disk h) s was (sym makes.failed ∙ now));
    run = λ h s was. subst (λ (disk : D). LeavesOnly g (disk_of old) disk (λ image. Stands (g.size (disk_of old)) image s)) (sym makes.disk) (done.run (subst g.honest makes.disk h) s was);
  }

  -- A read commits nothing.
  pub reading : {T : Type 0} (old new : Tree D g) → HasOnlyRead g old new → (result : Result T Refusal) → (IsErrOf result Device → HasRisen (g.failures (disk_of old)) (g.failures (disk_of new))) → (IsErrOf result Device → has_failed new ≡ true)
      → OnOk result (has_failed new ≡ false) → CommitsNothing g old new result
  reading old new keeps result device failed works = search rules

  -- A tree with the same roots and the same page map stores the same.
  at_same : (old new : Tree D g) → new.roots ≡ old.roots → new.page_map ≡ old.page_map → (s : Stored) → IsAt g old s → IsAt g new s
  at_same old new roots page_map s is = search rules

  -- a call refused with NoMemory before any call of the disk
  pub refused_in_memory : {T : Type 0} (old new : Tree D g) (result : Result T Refusal) (why : Refusal) → OnlyNow → new.roots ≡ old.roots → new.page_map ≡ old.page_map → has_failed old ≡ false
      → result ≡ Err why → why ≡ NoMemory → CommitsNothing g old new result
  refused_in_memory {T} old new result why only_now roots page_map works ended memory =
      in_memory old new result only_now
      (record { disk = ap (λ (r : Roots D g). disk_under r) roots; root = ap (λ (r : Roots D g). root_under r) roots; failed = ap (λ (r : Roots D g). have_failed r) roots; begun = ap (λ (r : Roots D g). have_begun r) roots }) works
      (λ _. at_same old new roots page_map)
      (λ device. (let e : ◌≡◌ {A = Result T Refusal} (Err NoMemory) (Err Device) = sym (ended ∙ ap (λ (x : Refusal). Err x) memory) ∙ device in cc))

  -- a call that wrote pages which no committed tile reaches
  module _ {T : Type 0} (old new : Tree D g) (result : Result T Refusal) (pages : List ℕ) (writes : WritesPages g pages old.roots new.roots result)
      (unreached : All (λ p. ¬ Contains (reached old.page_map.committed) p) pages) (committed : new.page_map.committed ≡ old.page_map.committed)
      (staged : g.honest (disk_of new) → (s : Stored) → IsAt g old s → OnOk result (AreStaged (format_of old.roots.root) new.page_map.committed new.page_map.staged (g.seen (disk_of new)))) where
    abbrev sectors : ℕ
    sectors = g.size (disk_of old)

    pub wrote : CommitsNothing g old new result
    wrote = record {
      returns = record {
        size = writes.size;
        later = writes.cause.later;
        device = λ is. writes.cause.failed (ap is_err is);
        works = writes.works;
        fails = failed_where result Device writes.failed;
        honest = writes.honest;
      };
      root = writes.root;
      at = λ honest s is works. record {
        ready = ok_where_works result (has_failed new) writes.failed works (writes.ready honest is.ready);
        each = λ image may. stores_along sectors (g.size (disk_of new)) old.roots.root new.roots.root old.page_map.committed new.page_map.committed s image writes.size writes.root committed
            ((writes.any_moment honest is.ready old.page_map.committed s unreached is.each).now image may);
        staged = subst (λ (r : RootValue). AreStaged (format_of r) new.page_map.committed new.page_map.staged (g.seen (disk_of new))) (sym writes.root) (ok_where_works result (has_failed new) writes.failed works (staged honest s is));
      };
      run = λ honest s is.
          weaker g (disk_of old) (disk_of new) (StoresAt sectors old.roots.root old.page_map.committed s) (λ image. Stands sectors image s)
          (λ image stores. stands sectors old.roots.root old.page_map.committed s image stores) (writes.any_moment honest is.ready old.page_map.committed s unreached is.each);
    }
