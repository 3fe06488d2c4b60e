-- The record and index pages of one plane of a tile, written page by page.
use Rattle.cow_tree.proofs.Prelude.{Bool, Contains, Corner, Err, Ghosts, HasPlane, HasPlaneAt, IsPageMap, IsWholePlane, IsWholeTile, List, ListingPage, None, Ok, OnOk, Option, PageMapValue, Plane, PlaneLocation, Refusal, Result, Roots, Some, TileLocation, WritesListing, WritesPages, ℕ, [], ap, append-nil, arith, cond, disk_of, drop, due_among, false, get_or, is_unreached, length, listing_bytes, listing_if, listing_of, named_listing, numbers_of, page_if, plane_listing, plane_of, reached, refl, same_Some, subst, sym, take, take-append-drop, take_all, take_more, times, times_of_member, true, ◌++◌, ◌+◌, ◌<◌, ◌∙◌, ◌∷◌, ◌≡◌, ◌≤◌}
use Rattle.std.proofs.lemmas.List.Elements.{All-contains, Contains-get_or, filter-append}
use Rattle.cow_tree.proofs.Listed.Counting.{at_times}
use Rattle.cow_tree.proofs.Listed.ListingPages.{AreWithin, due_refused, due_then, few_first, one_listed, plane_at, plane_length, plane_numbers, plane_within}
use Rattle.cow_tree.proofs.PageReads.{whole_in}
use Rattle.cow_tree.proofs.Steps.{on_ok}
use Rattle.cow_tree.proofs.Tiles.{one_at_corner}

-- A plane of a staged tile is whole, and the staged tiles reach its pages.
pub record IsPlaneAt (page_map : PageMapValue) (p : PlaneLocation) : Type 0 where
  pub whole : IsWholePlane page_map.format p
  pub within : AreWithin (plane_listing page_map.format p) page_map.staged

module _ (page_map : PageMapValue) (rules : IsPageMap page_map) (c : Corner) (name : Plane) where
  pub plane_there : (p : PlaneLocation) → HasPlaneAt page_map.staged c name p → IsPlaneAt page_map p
  plane_there p (t, (among, (here, at))) = record {
    whole = whole_in page_map.format name t p (All-contains (IsWholeTile page_map.format) page_map.staged t rules.staged.whole among) at;
    within = plane_within page_map.format page_map.staged t name p among at;
  }

  -- The plane found is the one of the corner's tile.
  pub plane_is : (p : PlaneLocation) → HasPlaneAt page_map.staged c name p → (t : TileLocation) → Contains page_map.staged t → t.corner ≡ c → named_listing page_map.format name t ≡ plane_listing page_map.format p
  plane_is p (u, (there, (here, at))) t among corner =
      let same : u ≡ t = one_at_corner page_map.staged u t rules.staged.in_order there among (here ∙ sym corner) in
      ap (listing_if page_map.format) (ap (plane_of name) (sym same) ∙ at)

  pub no_plane : ¬ HasPlane page_map.staged c name → (t : TileLocation) → Contains page_map.staged t → t.corner ≡ c → named_listing page_map.format name t ≡ []
  no_plane none t among corner = by (plane_of name t) refl
    where
      by : (o : Option PlaneLocation) → plane_of name t ≡ o → listing_if page_map.format o ≡ []
      by None is = refl
      by (Some p) is = absurd (none (p, (t, (among, (corner, is)))))

-- ---- the plane's listing pages, one after another
module _ (page_map : PageMapValue) (rules : IsPageMap page_map) (p : PlaneLocation) (is : IsPlaneAt page_map p) (before : List TileLocation) where
  abbrev pages : List ListingPage
  pages = plane_listing page_map.format p

  abbrev due_to : ℕ → List ListingPage
  due_to i = due_among before (take i pages)

  pub all_due : (i : ℕ) → length (listing_of p) ≤ i → due_to i ≡ due_among before pages
  all_due i le = ap (due_among before) (take_all i pages (omega (arith, le, plane_length page_map.format p)))

  module _ (i : ℕ) (lt : i < length (listing_of p)) where
    abbrev page : ℕ
    page = get_or (listing_of p) i 0

    abbrev this : ListingPage
    this = record { page = page; bytes = listing_bytes page_map.format p i }

    more : take (i + 1) pages ≡ take i pages ++ this ∷ []
    more = take_more pages i this (omega (arith, lt, plane_length page_map.format p)) ∙ ap (λ (l : ListingPage). take i pages ++ l ∷ []) (plane_at page_map.format p i this lt)

    still_within : AreWithin (take i pages ++ this ∷ []) page_map.staged
    still_within q = let same = ap (λ (l : List ListingPage). times q (numbers_of l)) more in omega (arith, same, few_first (i + 1) pages q, is.within q)

    there : 1 ≤ times page (reached page_map.staged)
    there =
        let here = times_of_member (listing_of p) page (Contains-get_or (listing_of p) i 0 lt) in
        let same = ap (times page) (plane_numbers page_map.format p) in
        omega (arith, here, same, is.within page)

    pub page_low : 4 ≤ page
    page_low = at_times (λ q. 4 ≤ q) page (reached page_map.staged) rules.staged.page_rule.low there

    pub page_high : page < page_map.sectors
    page_high = at_times (λ q. q < page_map.sectors) page (reached page_map.staged) rules.staged.page_rule.high there

    -- If `page_if v q` is a page, v is true and the page is q.
    page_is : (v : Bool) (q n : ℕ) → page_if v q ≡ Some n → (v ≡ true) × (q ≡ n)
    page_is true q n is = (refl, same_Some q n is)
    page_is false q n is = cc

    no_page : (v : Bool) (q : ℕ) → page_if v q ≡ None → v ≡ false
    no_page true q is = cc
    no_page false q is = refl

    pub number_is : (n : ℕ) → page_if (is_unreached before page) page ≡ Some n → page ≡ n
    number_is n here = (page_is (is_unreached before page) page n here).1

    pub page_more : {D : Type 0} (g : Ghosts D) (old mid new : Roots D g) (n : ℕ) (r : Result (Unit {0}) Refusal) → page_if (is_unreached before page) page ≡ Some n → WritesListing {T = Unit {0}} g (due_to i) old mid (Ok tt)
        → WritesPages g (n ∷ []) mid new r → (g.honest (disk_of new) → OnOk r (g.seen (disk_of new) n ≡ listing_bytes page_map.format p i)) → WritesListing g (due_to (i + 1)) old new r
    page_more g old mid new n r here so_far wrote bytes =
        let due = page_is (is_unreached before page) page n here in
        subst (λ (l : List ListingPage). WritesListing g (due_among before l) old new r) (sym more)
        (due_then g before (take i pages) (this ∷ []) page_map.staged page_map.sectors rules.staged.page_rule still_within old mid new r so_far
        (subst (λ (v : Bool). WritesListing g (cond v (this ∷ []) []) mid new r) (sym due.0)
        (one_listed g mid new this r (subst (λ (m : ℕ). WritesPages g (m ∷ []) mid new r) (sym due.1) wrote) (λ honest. on_ok r (λ has. ap (g.seen (disk_of new)) due.1 ∙ has) (bytes honest)))))

    pub page_refused : {D : Type 0} (g : Ghosts D) (old mid new : Roots D g) (n : ℕ) (why : Refusal) → page_if (is_unreached before page) page ≡ Some n → WritesListing {T = Unit {0}} g (due_to i) old mid (Ok tt)
        → WritesPages {T = Unit {0}} g (n ∷ []) mid new (Err why) → WritesListing {T = Unit {0}} g (due_among before pages) old new (Err why)
    page_refused g old mid new n why here so_far wrote =
        subst (λ (l : List ListingPage). WritesListing {T = Unit {0}} g (due_among before l) old new (Err why)) (take-append-drop (i + 1) pages)
        (due_refused g before (take (i + 1) pages) (drop (i + 1) pages) old new why (page_more g old mid new n (Err why) here so_far wrote (λ _. tt)))

    pub page_passed : {D : Type 0} (g : Ghosts D) (old mid : Roots D g) → page_if (is_unreached before page) page ≡ None → WritesListing {T = Unit {0}} g (due_to i) old mid (Ok tt) → WritesListing {T = Unit {0}} g (due_to (i + 1)) old mid (Ok tt)
    page_passed g old mid none so_far =
        let same : due_to (i + 1) ≡ due_to i =
        ap (due_among before) more
        ∙ (filter-append (λ (l : ListingPage). is_unreached before l.page) (take i pages) (this ∷ []) ∙ (ap (λ (v : Bool). due_to i ++ cond v (this ∷ []) []) (no_page (is_unreached before page) page none) ∙ append-nil (due_to i))) in
        subst (λ (l : List ListingPage). WritesListing {T = Unit {0}} g l old mid (Ok tt)) (sym same) so_far
