-- The records and index pages of tiles, written plane by plane and tile by tile.
use Rattle.cow_tree.proofs.Prelude.{Contains, Err, Ghosts, Heights, IsPageMap, Labels, Levels, List, ListingPage, Ok, PageMapValue, Refusal, Result, Roots, TileLocation, WritesListing, ℕ, ap, arith, drop, due_among, flat_map-append, get_or, length, named_listing, numbers_of, subst, sym, take, take-append-drop, take_all, tile_listing, tiles_listing, times, ◌++◌, ◌+◌, ◌<◌, ◌∙◌, ◌≡◌, ◌≤◌}
use Rattle.cow_tree.proofs.Listed.Counting.{flat_more}
use Rattle.cow_tree.proofs.Listed.ListingPages.{AreWithin, all_within, by_name, both_parts, due_refused, due_then, tile_within}

module _ {D : Type 0} (g : Ghosts D) (page_map : PageMapValue) (rules : IsPageMap page_map) (before : List TileLocation) where
  -- ---- the planes of a tile
  module _ (t : TileLocation) (among : Contains page_map.staged t) where
    abbrev heights : List ListingPage
    heights = named_listing page_map.format Heights t

    abbrev levels : List ListingPage
    levels = named_listing page_map.format Levels t

    abbrev labels : List ListingPage
    labels = named_listing page_map.format Labels t

    within : AreWithin (heights ++ (levels ++ labels)) page_map.staged
    within = subst (λ (l : List ListingPage). AreWithin l page_map.staged) (by_name page_map.format t) (tile_within page_map.format page_map.staged t among)

    behind : AreWithin (levels ++ labels) page_map.staged
    behind q = omega (arith, both_parts q heights (levels ++ labels), within q)

    whole : (old new : Roots D g) (r : Result (Unit {0}) Refusal) → WritesListing g (due_among before (heights ++ (levels ++ labels))) old new r → WritesListing g (due_among before (tile_listing page_map.format t)) old new r
    whole old new r = subst (λ (l : List ListingPage). WritesListing g (due_among before l) old new r) (sym (by_name page_map.format t))

    pub first_refused : (old new : Roots D g) (why : Refusal) → WritesListing {T = Unit {0}} g (due_among before heights) old new (Err why) → WritesListing {T = Unit {0}} g (due_among before (tile_listing page_map.format t)) old new (Err why)
    first_refused old new why first = whole old new (Err why) (due_refused g before heights (levels ++ labels) old new why first)

    pub second_refused : (old mid new : Roots D g) (why : Refusal) → WritesListing {T = Unit {0}} g (due_among before heights) old mid (Ok tt) → WritesListing {T = Unit {0}} g (due_among before levels) mid new (Err why)
        → WritesListing {T = Unit {0}} g (due_among before (tile_listing page_map.format t)) old new (Err why)
    second_refused old mid new why first second =
        whole old new (Err why)
        (due_then g before heights (levels ++ labels) page_map.staged page_map.sectors rules.staged.page_rule within old mid new (Err why) first (due_refused g before levels labels mid new why second))

    pub tile_written : (old mid last new : Roots D g) (r : Result (Unit {0}) Refusal) → WritesListing {T = Unit {0}} g (due_among before heights) old mid (Ok tt) → WritesListing {T = Unit {0}} g (due_among before levels) mid last (Ok tt)
        → WritesListing g (due_among before labels) last new r → WritesListing g (due_among before (tile_listing page_map.format t)) old new r
    tile_written old mid last new r first second third =
        whole old new r
        (due_then g before heights (levels ++ labels) page_map.staged page_map.sectors rules.staged.page_rule within old mid new r first
        (due_then g before levels labels page_map.staged page_map.sectors rules.staged.page_rule behind mid last new r second third))

  -- ---- one tile after another
  abbrev front : ℕ → List ListingPage
  front k = tiles_listing page_map.format (take k page_map.staged)

  joined : (k : ℕ) → front k ++ tiles_listing page_map.format (drop k page_map.staged) ≡ tiles_listing page_map.format page_map.staged
  joined k = sym (flat_map-append (tile_listing page_map.format) (take k page_map.staged) (drop k page_map.staged)) ∙ ap (tiles_listing page_map.format) (take-append-drop k page_map.staged)

  pub first_all : (k : ℕ) → length page_map.staged ≤ k → due_among before (front k) ≡ due_among before (tiles_listing page_map.format page_map.staged)
  first_all k le = ap (λ (tiles : List TileLocation). due_among before (tiles_listing page_map.format tiles)) (take_all k page_map.staged le)

  module _ (k : ℕ) (t : TileLocation) (lt : k < length page_map.staged) (here : get_or page_map.staged k t ≡ t) where
    next : front (k + 1) ≡ front k ++ tile_listing page_map.format t
    next = flat_more (tile_listing page_map.format) page_map.staged k t lt here

    still_within : AreWithin (front k ++ tile_listing page_map.format t) page_map.staged
    still_within q =
        let same = ap (λ (l : List ListingPage). times q (numbers_of l)) next in
        let all = ap (λ (l : List ListingPage). times q (numbers_of l)) (joined (k + 1)) in
        omega (arith, same, all, both_parts q (front (k + 1)) (tiles_listing page_map.format (drop (k + 1) page_map.staged)), all_within page_map.format page_map.staged q)

    pub one_more : (old mid new : Roots D g) (r : Result (Unit {0}) Refusal) → WritesListing {T = Unit {0}} g (due_among before (front k)) old mid (Ok tt) → WritesListing g (due_among before (tile_listing page_map.format t)) mid new r
        → WritesListing g (due_among before (front (k + 1))) old new r
    one_more old mid new r first second =
        subst (λ (l : List ListingPage). WritesListing g (due_among before l) old new r) (sym next)
        (due_then g before (front k) (tile_listing page_map.format t) page_map.staged page_map.sectors rules.staged.page_rule still_within old mid new r first second)

    pub one_refused : (old mid new : Roots D g) (why : Refusal) → WritesListing {T = Unit {0}} g (due_among before (front k)) old mid (Ok tt) → WritesListing {T = Unit {0}} g (due_among before (tile_listing page_map.format t)) mid new (Err why)
        → WritesListing {T = Unit {0}} g (due_among before (tiles_listing page_map.format page_map.staged)) old new (Err why)
    one_refused old mid new why first second =
        subst (λ (l : List ListingPage). WritesListing {T = Unit {0}} g (due_among before l) old new (Err why)) (joined (k + 1))
        (due_refused g before (front (k + 1)) (tiles_listing page_map.format (drop (k + 1) page_map.staged)) old new why (one_more old mid new (Err why) first second))
