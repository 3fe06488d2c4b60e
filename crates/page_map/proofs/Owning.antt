-- A page of a plane moves to a free page.
use Rattle.page_map.proofs.Prelude.{FreePages, List, ℕ, [], ap, arith, drop, get_or, len, length, refl, set, slice_set, sym, take, ◌++◌, ◌+◌, ◌/◌, ◌<◌, ◌∙◌, ◌∷◌, ◌≡◌, ◌≢◌, ◌≤◌}
use Rattle.std.proofs.Math.Seq.{take-append_seam, drop-append_seam}
use Rattle.std.proofs.lemmas.List.{length-set, set_past, set-append_left, set-append_right}
use Rattle.page_map.specs.Locations.{PlaneLocation, pages_behind, IsMovedBehind, times}
use Rattle.page_map.specs.FreePages.{free_times, differing, AreTaken, IsOwned, IsOwnedPage}
use Rattle.page_map.proofs.FreeTimes.{balanced_as, balanced_on, balanced_same}
use Rattle.page_map.proofs.Times.{one-self, differing-has, differing-set, length-differing-set, has_at}

pub owned_already : (committed pages : List ℕ) (i : ℕ) (free : FreePages) → i < length pages → (i < length committed → get_or pages i 0 ≢ get_or committed i 0)
    → IsOwned committed (get_or pages i 0) pages pages free free
owned_already committed pages i free below apart = record { fresh = differing-has pages committed i below apart; fewer = λ p. omega arith; balanced = balanced_same (differing pages committed) free }

-- A page that was free isn't one of the committed plane's pages.
pub not_committed : (committed : List ℕ) (i page : ℕ) (was now : FreePages) → i < length committed → ((p : ℕ) → times p committed + free_times was p ≤ 1) → AreTaken (page ∷ []) was now
    → page ≢ get_or committed i 0
not_committed committed i page was now within apart taken e =
    let free = taken.each page in
    let has : 1 ≤ times (get_or committed i 0) committed = has_at committed i 0 within in
    let has_page : 1 ≤ times page committed = rw e has in
    omega (arith, apart page, free, one-self page)

-- For pages that the committed plane doesn't have, there is as much room as before.
pub room_after : (committed pages : List ℕ) (i page : ℕ) (was now : FreePages) → i < length pages → i < length committed → get_or pages i 0 ≡ get_or committed i 0
    → ((p : ℕ) → times p committed + free_times was p ≤ 1) → AreTaken (page ∷ []) was now → len now.free + 1 ≡ len was.free
    → length pages ≤ length (differing pages committed) + len was.free
    → length (slice_set pages i page) ≤ length (differing (slice_set pages i page) committed) + len now.free
room_after committed pages i page was now below within same apart taken left room =
    omega (arith, left, room, length-set pages i page, length-differing-set pages committed i page below within same (not_committed committed i page was now within apart taken))

pub owned_now : (committed pages : List ℕ) (i page : ℕ) (was now : FreePages) → i < length pages → i < length committed → get_or pages i 0 ≡ get_or committed i 0
    → ((p : ℕ) → times p committed + free_times was p ≤ 1) → AreTaken (page ∷ []) was now
    → IsOwned committed page pages (slice_set pages i page) was now
owned_now committed pages i page was now below within same apart taken =
    let other : page ≢ get_or committed i 0 = not_committed committed i page was now within apart taken in
    record {
      fresh = omega (arith, differing-set page pages committed i page below within same other, one-self page);
      fewer = λ p. omega (arith, taken.each p);
      balanced = balanced_as taken (λ p. omega (arith, differing-set p pages committed i page below within same other));
    }

-- ---- a plane from its parts
parted : (p : PlaneLocation) (r : ℕ) (xs ys : List ℕ) → p.record_page ≡ r → length p.index_pages ≡ length xs → pages_behind p ≡ xs ++ ys → p ≡ record { record_page = r; index_pages = xs; pages = ys }
parted p r xs ys record_is len joined =
    let index : p.index_pages ≡ xs = sym (take-append_seam p.index_pages p.pages) ∙ (ap (λ l. take (length p.index_pages) l) joined ∙ (ap (λ n. take n (xs ++ ys)) len ∙ take-append_seam xs ys)) in
    let pages : p.pages ≡ ys = sym (drop-append_seam p.index_pages p.pages) ∙ (ap (λ l. drop (length p.index_pages) l) joined ∙ (ap (λ n. drop n (xs ++ ys)) len ∙ drop-append_seam xs ys)) in
    ap (λ n. record { record_page = n; index_pages = p.index_pages; pages = p.pages }) record_is
    ∙ (ap (λ l. record { record_page = r; index_pages = l; pages = p.pages }) index ∙ ap (λ l. record { record_page = r; index_pages = xs; pages = l }) pages)

-- one of the pages moves
page_moved : (old new : PlaneLocation) (i page : ℕ) → IsMovedBehind (length old.index_pages + i) page old new
    → new ≡ record { record_page = old.record_page; index_pages = old.index_pages; pages = set old.pages i page }
page_moved old new i page moved =
    parted new old.record_page old.index_pages (set old.pages i page) moved.same_record moved.same_count
    (moved.moved ∙ (set-append_right old.index_pages old.pages (length old.index_pages) (length old.index_pages + i) page refl (omega arith)
    ∙ ap (λ n. old.index_pages ++ set old.pages n page) (omega arith)))

-- one of the index pages moves
index_moved : (old new : PlaneLocation) (t page : ℕ) → t < length old.index_pages → IsMovedBehind t page old new
    → new ≡ record { record_page = old.record_page; index_pages = set old.index_pages t page; pages = old.pages }
index_moved old new t page below moved =
    parted new old.record_page (set old.index_pages t page) old.pages moved.same_record (moved.same_count ∙ sym (length-set old.index_pages t page))
    (moved.moved ∙ set-append_left old.index_pages old.pages t page below)

-- ---- page i becomes writable, without an index page or with one
pub owned_alone : (committed : List ℕ) (i page : ℕ) (old new : PlaneLocation) (was now : FreePages) → length old.index_pages ≤ i / 1024
    → IsMovedBehind (length old.index_pages + i) page old new → IsOwned committed page (pages_behind old) (pages_behind new) was now
    → IsOwnedPage committed i page old new was now
owned_alone committed i page old new was now none moved owned = record {
  index_page = 0;
  moved = page_moved old new i page moved ∙ ap (λ l. record { record_page = old.record_page; index_pages = l; pages = set old.pages i page }) (sym (set_past old.index_pages (i / 1024) 0 none));
  fresh_page = owned.fresh;
  fresh_index = λ below. absurd (omega arith);
  balanced = owned.balanced;
}

pub owned_listed : (committed : List ℕ) (i index_page page : ℕ) (old mid new : PlaneLocation) (was half now : FreePages) → i / 1024 < length old.index_pages
    → IsMovedBehind (i / 1024) index_page old mid → IsOwned committed index_page (pages_behind old) (pages_behind mid) was half
    → IsMovedBehind (length old.index_pages + i) page mid new → IsOwned committed page (pages_behind mid) (pages_behind new) half now
    → IsOwnedPage committed i page old new was now
owned_listed committed i index_page page old mid new was half now below first first_owned second second_owned =
    let count : length mid.index_pages ≡ length old.index_pages = first.same_count in
    let mid_is = index_moved old mid (i / 1024) index_page below first in
    let second_there : IsMovedBehind (length mid.index_pages + i) page mid new = rw count second in
    record {
      index_page = index_page;
      moved = page_moved mid new i page second_there ∙ ap (λ (m : PlaneLocation). record { record_page = m.record_page; index_pages = m.index_pages; pages = set m.pages i page }) mid_is;
      fresh_page = second_owned.fresh;
      fresh_index = λ _. omega (arith, first_owned.fresh, second_owned.balanced.each index_page, second_owned.fewer index_page);
      balanced = balanced_on (differing (pages_behind old) committed) (differing (pages_behind mid) committed) (differing (pages_behind new) committed) was half now first_owned.balanced second_owned.balanced;
    }
