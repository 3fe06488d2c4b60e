-- A plane staged in another way, committed or rolled back, and the changes of its pages.
use Rattle.page_map.proofs.Prelude.{AreBalanced, AreGiven, AreInUse, AreTaken, AsCommitted, Dropped, FreePages, Fresh, IfSome, IsOwnedPage, List, None, Option, PlaneEntry, PlaneLocation, Some, Staged, ℕ, [], ap, arith, differing, len, length, moved_plane, pages_behind, pages_of_plane, refl, subst, sym, times, ◌++◌, ◌+◌, ◌/◌, ◌<◌, ◌∙◌, ◌∷◌, ◌≡◌, ◌≤◌}
use Rattle.page_map.specs.PlaneEntries.{behind_at, fresh_as, fresh_in, pages_at, replaced, settled_plane, staged_as, staged_plane, used_in, HasRoom, IsPageRestaged, IsRecordRestaged}
use Rattle.page_map.proofs.Times.{one, one-self, times-append, differing-apart, differing-le, differing-nil, differing-self, differing-swap}
use Rattle.page_map.proofs.FreeTimes.{balanced_as, page_le}

pub nil_parts : (xs ys : List ℕ) → xs ++ ys ≡ [] → (xs ≡ []) × (ys ≡ [])
nil_parts [] ys none = (refl, none)
nil_parts (x ∷ xs) ys none = cc

-- ---- pages counted
pub used_split : (p : ℕ) (e : PlaneEntry) → times p (used_in e) ≡ times p (pages_at e.committed) + times p (fresh_in e)
used_split p e = times-append p (pages_at e.committed) (fresh_in e)

pub used_settled : (p : ℕ) (o : Option PlaneLocation) → times p (used_in (settled_plane o)) ≡ times p (pages_at o)
used_settled p o = omega (arith, times-append p (pages_at o) [])

pub behind_le : (p : ℕ) (o : Option PlaneLocation) → times p (behind_at o) ≤ times p (pages_at o)
behind_le p None = omega arith
behind_le p (Some location) = omega arith

-- The pages of plane a and those that only b has are the pages of b and those that only a has.
replaced_swap : (p : ℕ) (a b : Option PlaneLocation) → times p (pages_at a) + times p (replaced b a) ≡ times p (pages_at b) + times p (replaced a b)
replaced_swap p None None = refl
replaced_swap p None (Some b) = let whole = ap (times p) (differing-nil (pages_behind b)) in omega (arith, whole)
replaced_swap p (Some a) None = let whole = ap (times p) (differing-nil (pages_behind a)) in omega (arith, whole)
replaced_swap p (Some a) (Some b) = omega (arith, differing-swap p (pages_behind a) (pages_behind b))

-- The staged plane has at most the pages that the entry uses, and it has all fresh ones.
pub staged_le : (p : ℕ) (e : PlaneEntry) → times p (pages_at (staged_plane e)) ≤ times p (used_in e)
staged_le p e = by e.committed e.staged (used_split p e)
  where
    by : (o : Option PlaneLocation) (g : Staged) → times p (pages_at o ++ fresh_as o g) ≡ times p (pages_at o) + times p (fresh_as o g) → times p (pages_at (staged_as o g)) ≤ times p (pages_at o ++ fresh_as o g)
    by o AsCommitted split = omega (arith, split)
    by o Dropped split = omega arith
    by o (Fresh location) split = omega (arith, split, replaced_swap p (Some location) o)

pub fresh_le : (p : ℕ) (e : PlaneEntry) → times p (fresh_in e) ≤ times p (pages_at (staged_plane e))
fresh_le p e = by e.committed e.staged
  where
    by : (o : Option PlaneLocation) (g : Staged) → times p (fresh_as o g) ≤ times p (pages_at (staged_as o g))
    by o AsCommitted = omega arith
    by o Dropped = omega arith
    by o (Fresh location) = omega (arith, differing-le p (pages_behind location) (behind_at o))

-- the case in which only the fresh pages change
pub used_balanced : (old new : PlaneEntry) (was now : FreePages) → new.committed ≡ old.committed → AreBalanced (fresh_in old) (fresh_in new) was now → AreBalanced (used_in old) (used_in new) was now
used_balanced old new was now same balanced = balanced_as balanced (λ p. (let committed = ap (λ (o : Option PlaneLocation). times p (pages_at o)) same in omega (arith, committed, used_split p old, used_split p new)))

-- ---- a record on a fresh page
pub already_fresh : (e : PlaneEntry) (location : PlaneLocation) → e.staged ≡ Fresh location → IsRecordRestaged e e
already_fresh e location is = record { location = location; record_page = location.record_page; had = ap (staged_as e.committed) is; has = is }

module _ (e : PlaneEntry) (was : PlaneLocation) (is : e.staged ≡ AsCommitted) (some : e.committed ≡ Some was) where
  pub committed_room : (left : ℕ) → HasRoom e left → length (pages_of_plane was) ≤ left
  committed_room left room =
      let there : IfSome e.committed (λ l. length (pages_of_plane l) ≤ 0 + left) =
      subst (λ (g : Staged). IfSome (staged_as e.committed g) (λ l. length (pages_of_plane l) ≤ length (fresh_as e.committed g) + left)) is room in
      let here : IfSome (Some was) (λ l. length (pages_of_plane l) ≤ 0 + left) = subst (λ (o : Option PlaneLocation). IfSome o (λ l. length (pages_of_plane l) ≤ 0 + left)) some there in
      omega (arith, here)

  module _ (copy : PlaneLocation) (free now : FreePages) (same : copy ≡ record was { record_page = copy.record_page }) (taken : AreTaken (copy.record_page ∷ []) free now) where
    behind : pages_behind copy ≡ behind_at e.committed
    behind = ap pages_behind same ∙ sym (ap behind_at some)

    pub record_restaged : IsRecordRestaged e (record e { staged = Fresh copy })
    record_restaged = record { location = was; record_page = copy.record_page; had = ap (staged_as e.committed) is ∙ some; has = ap Fresh same }

    pub record_balanced : AreBalanced (fresh_in e) (fresh_in (record e { staged = Fresh copy })) free now
    record_balanced =
        balanced_as taken (λ p. (
        let none : times p (differing (pages_behind copy) (behind_at e.committed)) ≡ 0 = ap (λ l. times p (differing l (behind_at e.committed))) behind ∙ ap (times p) (differing-self (behind_at e.committed)) in
        let before : times p (fresh_in e) ≡ 0 = ap (λ g. times p (fresh_as e.committed g)) is in
        omega (arith, none, before)))

    pub record_room : HasRoom e (len free.free) → len now.free + 1 ≡ len free.free → HasRoom (record e { staged = Fresh copy }) (len now.free)
    record_room room left =
        let long : length (pages_behind copy) ≡ length (pages_behind was) = ap (λ (l : PlaneLocation). length (pages_behind l)) same in
        omega (arith, long, left, committed_room (len free.free) room)

-- ---- a page that may be written
module _ (e mid : PlaneEntry) (location : PlaneLocation) (prepared : IsRecordRestaged e mid) (is : mid.staged ≡ Fresh location) where
  location_is : record (prepared.location) { record_page = prepared.record_page } ≡ location
  location_is = let same : Fresh (record (prepared.location) { record_page = prepared.record_page }) ≡ Fresh location = sym prepared.has ∙ is in cc

  pub index_below : (i : ℕ) → IfSome (staged_plane e) (λ l. i < length l.pages) → i < length location.pages
  index_below i below =
      let there : IfSome (Some (prepared.location)) (λ l. i < length l.pages) = subst (λ (o : Option PlaneLocation). IfSome o (λ l. i < length l.pages)) prepared.had below in
      subst (λ (l : PlaneLocation). i < length l.pages) location_is there

  module _ (after : PlaneLocation) (i page : ℕ) (half now : FreePages) (owned : IsOwnedPage (behind_at mid.committed) i page location after half now) where
    after_is : after ≡ moved_plane i page owned.index_page prepared.record_page prepared.location
    after_is = owned.moved ∙ ap (λ (l : PlaneLocation). moved_plane i page owned.index_page l.record_page l) (sym location_is)

    pub page_restaged : IsPageRestaged i page e (record mid { staged = Fresh after })
    page_restaged = record {
      location = prepared.location;
      record_page = prepared.record_page;
      index_page = owned.index_page;
      had = prepared.had;
      has = ap Some after_is;
      fresh_record = (let same : one prepared.record_page after.record_page ≡ one prepared.record_page prepared.record_page = ap (λ (l : PlaneLocation). one prepared.record_page l.record_page) after_is in omega (arith, same, one-self prepared.record_page));
      fresh_index = λ below. omega (arith, owned.fresh_index (subst (λ (l : PlaneLocation). i / 1024 < length l.index_pages) location_is below));
      fresh_page = omega (arith, owned.fresh_page);
    }

    pub page_balanced : (was : FreePages) → AreBalanced (fresh_in e) (fresh_in mid) was half → AreBalanced (fresh_in e) (fresh_in (record mid { staged = Fresh after })) was now
    page_balanced was first = record {
      same_range = owned.balanced.same_range ∙ first.same_range;
      each = λ p.
          let before : times p (fresh_in mid) ≡ times p (replaced (Some location) mid.committed) = ap (λ (g : Staged). times p (fresh_as mid.committed g)) is in
          let same : one p after.record_page ≡ one p location.record_page = ap (λ (l : PlaneLocation). one p l.record_page) owned.moved in
          omega (arith, before, same, first.each p, owned.balanced.each p);
    }

-- ---- a plane staged again without fresh pages
pub given_balanced : (e : PlaneEntry) (g : Staged) (was now : FreePages) → fresh_as e.committed g ≡ [] → AreGiven (fresh_in e) was now → AreBalanced (used_in e) (used_in (record e { staged = g })) was now
given_balanced e g was now none given = balanced_as given (λ p. (let nothing = ap (times p) none in omega (arith, nothing, used_split p e, used_split p (record e { staged = g }))))

module _ (e : PlaneEntry) (location : PlaneLocation) (was now : FreePages) (in_use : AreInUse (used_in e) was) (taken : AreTaken (pages_of_plane location) was now) where
  pub taken_fresh : replaced (Some location) e.committed ≡ pages_of_plane location
  taken_fresh = ap (λ l. location.record_page ∷ l) (differing-apart (pages_behind location) (behind_at e.committed) (λ p. omega (arith, behind_le p e.committed, used_split p e, in_use p, taken.each p, page_le was.range p)))

  pub taken_balanced : fresh_in e ≡ [] → AreBalanced (used_in e) (used_in (record e { staged = Fresh location })) was now
  taken_balanced none =
      balanced_as taken (λ p. (let nothing = ap (times p) none in let all = ap (times p) taken_fresh in omega (arith, nothing, all, used_split p e, used_split p (record e { staged = Fresh location }))))

-- ---- a plane committed or rolled back
module _ (e : PlaneEntry) (location : Option PlaneLocation) (fresh : fresh_in e ≡ replaced location e.committed) (was : FreePages) where
  pub replaced_in_use : AreInUse (used_in e) was → AreInUse (replaced e.committed location) was
  replaced_in_use in_use p = let own = ap (times p) fresh in omega (arith, own, in_use p, used_split p e, replaced_swap p location e.committed)

  pub settled_balanced : (now : FreePages) → AreGiven (replaced e.committed location) was now → AreBalanced (used_in e) (used_in (settled_plane location)) was now
  settled_balanced now given = balanced_as given (λ p. (let own = ap (times p) fresh in omega (arith, own, used_split p e, used_settled p location, replaced_swap p location e.committed)))
