-- Pages staged one after another, and the memory reserved for them.
use Rattle.std.proofs.Common.{rules}
use Rattle.stored_mosaic.proofs.Prelude.{Bool, CommitsNothing, Corner, Device, Err, Ghosts, HasOnlyRead, IfErr, IsErrOf, IsRefusedEarly, IsSettled, IsUnderway, List, MakesPages, Mosaic, NoMemory, Ok, OnErr, OnOk, One, OnlyNow, PageMapValue, Point, Prepares, Reads, Refusal, Result, RootValue, Settles, StagesPages, StoredTile, Tree, Two, Version, ℕ, ℤ, ap, ap₂, arith, disk_of, false, has_begun, has_failed, if◌then◌else◌, in_memory, index_page_by, index_pages_due, inr, length, never_refused, ok_where, on_ok, pages_due, records_due, refl, refusal_is, root_of, staged_in, subst, sym, true, uncommitted_on, writes_begun, ⊎_elim, ◌+◌, ◌∙◌, ◌≡◌, ◌≤◌, ◌⊎◌}
use Rattle.stored_mosaic.proofs.Edits.EditingReads.{reading}
use Rattle.stored_mosaic.proofs.Calls.Underway.{advances_none, advances_on}
use Rattle.stored_mosaic.proofs.Edits.Staled.{changes_as, changes_none, changes_on}

-- the index pages for p pages and for q more
index_pages_on : (version : Version) (p q : ℕ) → index_pages_due version p + index_pages_due version q ≡ index_pages_due version (p + q)
index_pages_on One p q = refl
index_pages_on Two p q = refl

-- the index page of one page
pub one_page_due : (version : Version) → index_page_by version ≡ index_pages_due version 1
one_page_due One = refl
one_page_due Two = refl

-- If memory is reserved, the only refusal is Device.
pub only_device : {T : Type 0} (result : Result T Refusal) → IfErr result (λ r. (r ≡ Device) ⊎ (r ≡ NoMemory)) → (IsErrOf result NoMemory → ⊥) → IfErr result (λ r. r ≡ Device)
only_device (Ok x) refused sure = tt
only_device {T} (Err r) refused sure = ⊎_elim (λ device. device) (λ memory. absurd (sure (ap (λ (x : Refusal). let e : Result T Refusal = Err x in e) memory))) refused

module _ {D : Type 0} (g : Ghosts D) where
  pub pages_on : {T U : Type 0} (p r q s : ℕ) (old mid new : Tree D g) (x : T) (result : Result U Refusal) → StagesPages g p r old mid (Ok x) → StagesPages g q s mid new result
      → StagesPages g (p + q) (r + s) old new result
  pages_on p r q s old mid new x result first second = record {
    uncommitted = uncommitted_on g old mid new x result first.uncommitted second.uncommitted;
    corners = second.corners ∙ first.corners;
    sinks = second.sinks ∙ first.sinks;
    still_staged = λ c was. second.still_staged c (first.still_staged c was);
    writes = omega (arith, first.begun, second.writes);
    begun = on_ok result (λ begun. omega (arith, first.begun, begun)) second.begun;
    due = on_ok result
        (λ due.
        let version : records_due new ≤ records_due mid + (s + index_pages_due (root_of old).version q) =
        subst (λ (root : RootValue). records_due new ≤ records_due mid + (s + index_pages_due root.version q)) first.uncommitted.root due in
        omega (arith, first.due, version, index_pages_on (root_of old).version p q))
        second.due;
  }

  pub pages_within : {T : Type 0} (p r q s : ℕ) (old new : Tree D g) (result : Result T Refusal) → p ≤ q → r ≤ s → StagesPages g p r old new result → StagesPages g q s old new result
  pages_within p r q s old new result fewer less done = search rules

  pub prepares_on : {T U : Type 0} (r s : ℕ) (old mid new : Tree D g) (x : T) (result : Result U Refusal) → Prepares g r old mid (Ok x) → Prepares g s mid new result → Prepares g (r + s) old new result
  prepares_on r s old mid new x result first second = record {
    refused = second.refused;
    changes = changes_on g (λ ts. ts) (λ ts. ts) (λ ts. ts) r s old mid new (λ ts. refl) first.changes second.changes;
    still_staged = λ c was. second.still_staged c (first.still_staged c was);
  }

  pub prepares_within : {T : Type 0} (r s : ℕ) (old new : Tree D g) (result : Result T Refusal) → r ≤ s → Prepares g r old new result → Prepares g s old new result
  prepares_within r s old new result less done = record { refused = done.refused; changes = changes_as g (λ ts. ts) (λ ts. ts) r s old new less refl done.changes; still_staged = done.still_staged }

  pub none_prepared : (r : ℕ) (tree : Tree D g) → Prepares {T = Unit {0}} g r tree tree (Ok tt)
  none_prepared r tree = record { refused = tt; changes = changes_none g (λ ts. ts) r tree refl; still_staged = λ c was. was }

  same_begun : (old new : Tree D g) → g.writes (disk_of new) ≡ g.writes (disk_of old) → has_begun new ≡ has_begun old → writes_begun g new ≡ writes_begun g old
  same_begun old new writes begun = ap₂ (λ (n : ℕ) (b : Bool). n + (if b then 0 else 1)) writes begun

  -- Memory was reserved, or refused.
  not_device : {T : Type 0} (result : Result T Refusal) → IfErr result (λ r. r ≡ NoMemory) → IsErrOf result Device → ⊥
  not_device (Ok x) is failed = never_refused x Device failed
  not_device {T} (Err r) is failed =
      let device : r ≡ Device = refusal_is {T = T} r failed in
      let no : NoMemory ≡ Device = sym is ∙ device in cc

  -- A call that reserves memory is refused before any write.
  pub prepared_early : {T : Type 0} (r : ℕ) (old new : Tree D g) (result : Result T Refusal) → has_failed old ≡ false → Prepares g r old new result → IsRefusedEarly g old new result
  prepared_early r old new (Ok x) works done = tt
  prepared_early r old new (Err why) works done = let made = done.changes.no_call in inr (done.refused, made.failed ∙ works, ap g.writes made.disk)

  -- A call that only read stages no page.
  pub only_read : {T : Type 0} (p r : ℕ) (old new : Tree D g) (result : Result T Refusal) → HasOnlyRead g old new → CommitsNothing g old new result → StagesPages g p r old new result
  only_read p r old new result keeps read = search rules

  pub page_read : {T : Type 0} (p r : ℕ) (old new : Tree D g) (result : Result T Refusal) → Reads g old new result → StagesPages g p r old new result
  page_read p r old new result reads = search rules

  module _ (only_now : OnlyNow g) where
    -- A call that reserves memory stages no page.
    pub prepared_pages : {T : Type 0} (r : ℕ) (old new : Tree D g) (result : Result T Refusal) → has_failed old ≡ false → Prepares g r old new result → StagesPages g 0 r old new result
    prepared_pages r old new result works done =
        let is = done.changes in
        let writes = ap g.writes is.no_call.disk in
        let same = same_begun old new writes is.no_call.begun in
        record {
          uncommitted = in_memory g old new result only_now is.no_call works (λ _. is.at) (not_device result done.refused);
          corners = is.corners;
          sinks = is.sinks;
          still_staged = done.still_staged;
          writes = omega (arith, writes);
          begun = ok_where result (omega (arith, same));
          due = ok_where result (let due = is.due in omega (arith, due));
        }

    -- ---- parts of an edit

    module _ (n : ℕ) (made : Mosaic → Point → ℤ → ℤ) (fits : Mosaic → Type 0) where
      pub none_made : (here : Corner → ℕ → Type 0) (tree : Tree D g) → has_failed tree ≡ false → ((c : Corner) (i : ℕ) → here c i → ⊥) → MakesPages {T = Unit {0}} g n made fits here 0 0 tree tree (Ok tt)
      none_made here tree works none = record {
        pages = prepared_pages 0 tree tree (Ok tt) works (none_prepared 0 tree);
        set = λ honest s m at fit under. (advances_none n (made m) m (staged_in g tree) under, λ c i is. absurd (none c i is));
      }

      -- an edit after its memory was reserved
      pub made_behind : {T : Type 0} (here : Corner → ℕ → Type 0) (r q : ℕ) (old mid new : Tree D g) (result : Result T Refusal) → has_failed old ≡ false → Prepares {T = Unit {0}} g r old mid (Ok tt)
          → MakesPages g n made fits here q 0 mid new result → MakesPages g n made fits here q r old new result
      made_behind here r q old mid new result works prepared done =
          let first = prepared_pages r old mid (Ok tt) works prepared in
          record {
            pages = pages_within (0 + q) (r + 0) q r old new result (omega arith) (omega arith) (pages_on 0 r q 0 old mid new tt result first done.pages);
            set = λ honest s m at fit under.
                subst (λ (ts : List StoredTile). OnOk result (Settles n (made m) m here ts (staged_in g new))) prepared.changes.staged
                (done.set honest s m (prepared.changes.at s at) fit (subst (λ (ts : List StoredTile). IsUnderway n (made m) m ts) (sym prepared.changes.staged) under));
          }

      -- one part of an edit after another
      pub made_on : {T U : Type 0} (one more : Corner → ℕ → Type 0) (p q : ℕ) (old mid new : Tree D g) (x : T) (result : Result U Refusal) → MakesPages g n made fits one p 0 old mid (Ok x) → MakesPages g n made fits more q 0 mid new result
          → MakesPages g n made fits (λ c i. one c i ⊎ more c i) (p + q) 0 old new result
      made_on one more p q old mid new x result first second = record {
        pages = pages_on p 0 q 0 old mid new x result first.pages second.pages;
        set = λ honest s m at fit under.
            let before = second.pages.uncommitted.returns.honest honest in
            let was = first.set before s m at fit under in
            on_ok result
            (λ now. (
              advances_on n (made m) m (staged_in g old) (staged_in g mid) (staged_in g new) was.0 now.0,
              λ c i. ⊎_elim (λ is. now.0.settled c i (was.1 c i is)) (λ is. now.1 c i is),
            ))
            (second.set honest s m (first.pages.uncommitted.at before s at first.pages.uncommitted.returns.works) fit was.0.underway);
      }

      -- the same with at least as many pages, and with the pages that the edit leaves unchanged
      pub made_as : {T : Type 0} (here all : Corner → ℕ → Type 0) (p q : ℕ) (old new : Tree D g) (result : Result T Refusal) → p ≤ q
          → ((m : Mosaic) → fits m → (tiles : List StoredTile) → IsUnderway n (made m) m tiles → (c : Corner) (i : ℕ) → all c i → here c i ⊎ IsSettled n (made m) tiles c i)
          → MakesPages g n made fits here p 0 old new result → MakesPages g n made fits all q 0 old new result
      made_as here all p q old new result fewer settled done = record {
        pages = pages_within p 0 q 0 old new result fewer (omega arith) done.pages;
        set = λ honest s m at fit under.
            on_ok result (λ so. (so.0, λ c i is. ⊎_elim (so.1 c i) (λ as_is. as_is) (settled m fit (staged_in g new) so.0.underway c i is))) (done.set honest s m at fit under);
      }
