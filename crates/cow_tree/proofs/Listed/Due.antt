-- Which tiles have staged heights, and how many records and index pages the next commit writes (the due pages).
use Rattle.cow_tree.proofs.Prelude.{All, All-contains, All-contains_itself, All-head, All-tail, All-weaker, AllAfter, AreKept, Bool, Contains, Corner, HasFreshHeights, IsAdded, IsFresh, IsLocated, IsPageMap, IsPrepared, IsRewritten, IsWholeTile, KeptLocations, List, None, One, Option, PageMapValue, PlaneLocation, Rising, Some, TileLocation, Two, Version, ℕ, [], ap, ap₂, arith, cond, corners_of_locations, false, filter, filter-append, if◌then◌else◌, index_page_by, index_pages_by, index_pages_of, is_at, is_before, is_unreached, length, length-append, length-filter-le, list_any, listing_of, listing_of_kept, listing_of_tile, listings, map, moved_plane, not, other_kept, pages_behind, pages_due, pages_of, reached, refl, rising_from, slice_set, subst, suc, sym, tile_at_corner, tiles_split, true, with_tile_location, without_location, zero, ◌*◌, ◌++◌, ◌+◌, ◌/◌, ◌<◌, ◌||◌, ◌∙◌, ◌∷◌, ◌≡◌, ◌≤◌}
use Rattle.lattice.proofs.CornerOrder.{same_says, after_not_same}
use Rattle.cow_tree.specs.Stored.{with_corner}
use Rattle.cow_tree.proofs.Listed.Adding.{added_there}
use Rattle.cow_tree.proofs.Listed.CornerChanges.{heights_here, heights_still}
use Rattle.page_map.proofs.Listing.{any_none, any_some}
use Rattle.cow_tree.proofs.Standing.{All-front}
use Rattle.cow_tree.proofs.Listed.Counting.{all_of_fewer}
use Rattle.cow_tree.proofs.Tiles.{corner_of, located_is, one_at_corner}

pub reached_from : (committed : List TileLocation) (page : ℕ) → Contains (reached committed) page → is_unreached committed page ≡ false
reached_from committed page has = ap not (any_some (reached committed) page has)

-- ---- how many pages of a list no committed tile reaches
due_of : List TileLocation → List ℕ → ℕ
due_of committed pages = length (filter (is_unreached committed) pages)

due_is : (page_map : PageMapValue) → length (pages_due page_map) ≡ due_of page_map.committed (listings page_map.staged)
unfolding due_of
due_is page_map = refl

due_nothing : (committed : List TileLocation) → due_of committed [] ≡ 0
unfolding due_of
due_nothing committed = refl

due_append : (committed : List TileLocation) (xs ys : List ℕ) → due_of committed (xs ++ ys) ≡ due_of committed xs + due_of committed ys
unfolding due_of
due_append committed xs ys = ap length (filter-append (is_unreached committed) xs ys) ∙ length-append (filter (is_unreached committed) xs) (filter (is_unreached committed) ys)

due_few : (committed : List TileLocation) (pages : List ℕ) → due_of committed pages ≤ length pages
unfolding due_of
due_few committed pages = length-filter-le (is_unreached committed) pages

due_one : (committed : List TileLocation) (page : ℕ) → ¬ Contains (reached committed) page → due_of committed (page ∷ []) ≡ 1
unfolding due_of
due_one committed page none = ap (λ (v : Bool). length (cond v (page ∷ []) [])) (ap not (any_none (reached committed) page none))

due_reached : (committed : List TileLocation) (page : ℕ) → Contains (reached committed) page → due_of committed (page ∷ []) ≡ 0
unfolding due_of
due_reached committed page has = ap (λ (v : Bool). length (cond v (page ∷ []) [])) (reached_from committed page has)

due_none : (committed : List TileLocation) (pages : List ℕ) → All (Contains (reached committed)) pages → due_of committed pages ≡ 0
due_none committed [] all = due_nothing committed
due_none committed (q ∷ rest) all =
    omega (
      arith,
      due_append committed (q ∷ []) rest,
      due_reached committed q (All-head (Contains (reached committed)) q rest all),
      due_none committed rest (All-tail (Contains (reached committed)) q rest all),
    )

due_all : (committed : List TileLocation) (pages : List ℕ) → All (λ q. ¬ Contains (reached committed) q) pages → due_of committed pages ≡ length pages
due_all committed [] all = due_nothing committed
due_all committed (q ∷ rest) all =
    omega (
      arith,
      due_append committed (q ∷ []) rest,
      due_one committed q (All-head (λ p. ¬ Contains (reached committed) p) q rest all),
      due_all committed rest (All-tail (λ p. ¬ Contains (reached committed) p) q rest all),
    )

-- If a page that no committed tile reaches replaces one, the count stays or rises by one.
due_set : (committed : List TileLocation) (xs : List ℕ) (j y : ℕ) → (j < length xs → due_of committed (y ∷ []) ≡ 1)
    → (due_of committed xs ≤ due_of committed (slice_set xs j y)) × (due_of committed (slice_set xs j y) ≤ due_of committed xs + 1)
due_set committed [] j y one = (omega arith, omega arith)
due_set committed (x ∷ xs) zero y one =
    let was = due_append committed (x ∷ []) xs in
    let now = due_append committed (y ∷ []) xs in
    let few = due_few committed (x ∷ []) in
    let fresh = one (omega arith) in
    (omega (arith, was, now, few, fresh), omega (arith, was, now, fresh))
due_set committed (x ∷ xs) (suc j) y one =
    let later = due_set committed xs j y (λ below. one (omega (arith, below))) in
    let was = due_append committed (x ∷ []) xs in
    let now = due_append committed (x ∷ []) (slice_set xs j y) in
    (omega (arith, was, now, later.0), omega (arith, was, now, later.1))

-- The first version has no index pages, so none is replaced.
due_set_by : (committed : List TileLocation) (j y : ℕ) (version : Version) (pages : ℕ) (xs : List ℕ) → length xs ≡ index_pages_by version pages → (j < length xs → due_of committed (y ∷ []) ≡ 1)
    → due_of committed (slice_set xs j y) ≤ due_of committed xs + index_page_by version
due_set_by committed j y One pages [] long one = omega arith
due_set_by committed j y One pages (x ∷ xs) long one = absurd (omega (arith, long))
due_set_by committed j y Two pages xs long one = (due_set committed xs j y one).1

-- ---- due pages of a tile: the record and index pages of its heights and of its kept planes
due_tile : (committed : List TileLocation) (t : TileLocation)
    → due_of committed (listing_of_tile t) ≡ due_of committed (t.heights.record_page ∷ []) + (due_of committed t.heights.index_pages + due_of committed (listing_of_kept t.kept))
due_tile committed t = omega (arith, due_append committed (listing_of t.heights) (listing_of_kept t.kept), due_append committed (t.heights.record_page ∷ []) t.heights.index_pages)

due_cons : (committed : List TileLocation) (t : TileLocation) (rest : List TileLocation) → due_of committed (listings (t ∷ rest)) ≡ due_of committed (listing_of_tile t) + due_of committed (listings rest)
due_cons committed t rest = due_append committed (listing_of_tile t) (listings rest)

due_among : (committed : List TileLocation) (tiles : List TileLocation) (t : TileLocation) → Contains tiles t → due_of committed (listing_of_tile t) ≤ due_of committed (listings tiles)
due_among committed [] t (k, lt, here) = absurd (omega (arith, lt))
due_among committed (u ∷ rest) t (zero, lt, here) =
    let both = due_cons committed u rest in
    let same = ap (λ (v : TileLocation). due_of committed (listing_of_tile v)) here in
    omega (arith, both, same)
due_among committed (u ∷ rest) t (suc k, lt, here) =
    omega (arith, due_cons committed u rest, due_among committed rest t (k, omega (arith, lt), here))

-- If nothing is staged, no page is due.
pub none_due : (page_map : PageMapValue) → page_map.staged ≡ page_map.committed → length (pages_due page_map) ≡ 0
none_due page_map clean =
    due_is page_map
    ∙ ap (λ (tiles : List TileLocation). due_of page_map.committed (listings tiles)) clean
    ∙ due_none page_map.committed (listings page_map.committed)
    (all_of_fewer (Contains (reached page_map.committed)) (listings page_map.committed) (reached page_map.committed) (λ q. omega (arith, tiles_split q page_map.committed)) (All-contains_itself (reached page_map.committed)))

-- If a tile's heights are staged, their record is due.
pub fresh_due : (page_map : PageMapValue) (c : Corner) → HasFreshHeights c page_map → 1 ≤ length (pages_due page_map)
fresh_due page_map c (t, (staged, corner, fresh)) =
    omega (
      arith,
      due_is page_map,
      due_among page_map.committed page_map.staged t staged,
      due_tile page_map.committed t,
      due_one page_map.committed t.heights.record_page fresh.unreached,
    )

-- ---- changes of the corner's tile
after_other : (c : Corner) (f : TileLocation → TileLocation) (tiles : List TileLocation) → AllAfter corner_of c tiles → map (λ t. if is_at c t then f t else t) tiles ≡ tiles
after_other c f [] after = refl
after_other c f (t ∷ rest) after =
    ap₂ (λ (v : Bool) (us : List TileLocation). (if v then f t else t) ∷ us) (after_not_same c t.corner after.0) (after_other c f rest after.1)

pub located_tile : (c : Corner) (tiles : List TileLocation) → IsLocated c tiles → (t : TileLocation) × (Contains tiles t × (t.corner ≡ c))
located_tile c tiles located = let (location, (t, (has, (at, heights)))) = tile_at_corner c tiles located in (t, (has, at))

-- The due pages change by as many as those of the corner's tile.
module _ (committed : List TileLocation) (c : Corner) (f : TileLocation → TileLocation) where
  abbrev Changes : List TileLocation → Type 0
  Changes tiles = (t : TileLocation) × (Contains tiles t × (t.corner ≡ c)
      × (due_of committed (listings (map (λ u. if is_at c u then f u else u) tiles)) + due_of committed (listing_of_tile t) ≡ due_of committed (listings tiles) + due_of committed (listing_of_tile (f t))))

  due_changed : (tiles : List TileLocation) → Rising corner_of tiles → list_any (is_at c) tiles ≡ true → Changes tiles
  due_changed [] rising some = absurd (let wrong : false ≡ true = some in cc)
  due_changed (t ∷ rest) rising some =
      elim (is_at c t) as (λ (v : Bool). is_at c t ≡ v → (v || list_any (is_at c) rest) ≡ true → Changes (t ∷ rest)) [
        | true ↦ λ at _.
            let here = same_says t.corner c at in
            let changed : map (λ u. if is_at c u then f u else u) (t ∷ rest) ≡ f t ∷ rest =
            ap₂ (λ (v : Bool) (us : List TileLocation). (if v then f t else t) ∷ us) at (after_other c f rest (subst (λ (d : Corner). AllAfter corner_of d rest) here rising.0)) in
            let now = ap (λ (us : List TileLocation). due_of committed (listings us)) changed ∙ due_cons committed (f t) rest in
            let was = due_cons committed t rest in
            (t, ((0, omega arith, refl), here, omega (arith, now, was)))
        | false ↦ λ other later.
            let found = due_changed rest rising.1 later in
            let now = ap (λ (v : Bool). due_of committed (listings ((if v then f t else t) ∷ map (λ u. if is_at c u then f u else u) rest))) other ∙ due_cons committed t (map (λ u. if is_at c u then f u else u) rest) in
            let was = due_cons committed t rest in
            (found.0, ((suc found.1.0.0, omega (arith, found.1.0.1), found.1.0.2), found.1.1, omega (arith, now, was, found.1.2)))
      ] refl some

module _ (old new : PageMapValue) (c : Corner) (f : TileLocation → TileLocation) (rules : IsPageMap old) (located : IsLocated c old.staged)
    (changed : new ≡ record old { staged = map (λ t. if is_at c t then f t else t) old.staged }) where
  the_tile : (t : TileLocation) × (Contains old.staged t × (t.corner ≡ c)
      × (length (pages_due new) + due_of old.committed (listing_of_tile t) ≡ length (pages_due old) + due_of old.committed (listing_of_tile (f t))))
  the_tile =
      let found = due_changed old.committed c f old.staged (rising_from corner_of old.staged rules.staged.in_order) (located_is c old.staged located) in
      let now = ap (λ (x : PageMapValue). length (pages_due x)) changed ∙ due_is (record old { staged = map (λ t. if is_at c t then f t else t) old.staged }) in
      (found.0, (found.1.0, found.1.1, omega (arith, found.1.2, now, due_is old)))

-- ---- changes of the tile's heights whose record moves to a page that no committed tile reaches
module _ (old new : PageMapValue) (c : Corner) (g : PlaneLocation → PlaneLocation) (fresh : (p : PlaneLocation) → IsFresh new (g p).record_page)
    (changed : new ≡ record old { staged = map (λ t. if is_at c t then record t { heights = g t.heights } else t) old.staged }) where
  abbrev moved : TileLocation → TileLocation
  moved t = record t { heights = g t.heights }

  committed_same : new.committed ≡ old.committed
  committed_same = ap (λ (x : PageMapValue). x.committed) changed

  staged_still : (other : Corner) → HasFreshHeights other old → HasFreshHeights other new
  staged_still = heights_still c moved (λ t. refl) old new changed (λ t was. fresh t.heights)

  module _ (rules : IsPageMap old) (located : IsLocated c old.staged) where
    found : (t : TileLocation) × (Contains old.staged t × (t.corner ≡ c)
        × (length (pages_due new) + due_of old.committed (listing_of_tile t) ≡ length (pages_due old) + due_of old.committed (listing_of_tile (moved t))))
    found = the_tile old new c moved rules located changed

    abbrev tile : TileLocation
    tile = found.0

    staged_here : HasFreshHeights c new
    staged_here = heights_here c moved (λ t. refl) old new changed tile found.1.0 found.1.1 (fresh tile.heights)

    -- the due pages: that record, and the index pages that moved
    moved_due : length (pages_due new) + (due_of old.committed (tile.heights.record_page ∷ []) + due_of old.committed tile.heights.index_pages)
        ≡ length (pages_due old) + (1 + due_of old.committed (g tile.heights).index_pages)
    moved_due =
        omega (
          arith,
          found.1.2,
          due_tile old.committed tile,
          due_tile old.committed (moved tile),
          due_one old.committed (g tile.heights).record_page (subst (λ (tiles : List TileLocation). ¬ Contains (reached tiles) (g tile.heights).record_page) committed_same (fresh tile.heights).unreached),
        )

    few_records : due_of old.committed (tile.heights.record_page ∷ []) ≤ 1
    few_records = due_few old.committed (tile.heights.record_page ∷ [])

    had_record : HasFreshHeights c old → due_of old.committed (tile.heights.record_page ∷ []) ≡ 1
    had_record (t, (staged, here, was)) =
        due_one old.committed tile.heights.record_page
        (subst (λ (u : TileLocation). ¬ Contains (reached old.committed) u.heights.record_page) (one_at_corner old.staged t tile rules.staged.in_order staged found.1.0 (here ∙ sym found.1.1)) was.unreached)

-- the case of a written page of heights
module _ (old new : PageMapValue) (c : Corner) (i page : ℕ) (rules : IsPageMap old) (written : IsRewritten c i page old new) where
  abbrev rewrite : PlaneLocation → PlaneLocation
  rewrite = moved_plane i page written.index_page written.record_page

  fresh_record : (p : PlaneLocation) → IsFresh new (rewrite p).record_page
  fresh_record p = written.fresh_record

  pub written_still : (other : Corner) → HasFreshHeights other old → HasFreshHeights other new
  written_still = staged_still old new c rewrite fresh_record written.changed

  module _ (located : IsLocated c old.staged) where
    abbrev there : TileLocation
    there = tile old new c rewrite fresh_record written.changed rules located

    abbrev index : List ℕ
    index = there.heights.index_pages

    counted : length (pages_due new) + (due_of old.committed (there.heights.record_page ∷ []) + due_of old.committed index) ≡ length (pages_due old) + (1 + due_of old.committed (slice_set index (i / 1024) written.index_page))
    counted = moved_due old new c rewrite fresh_record written.changed rules located

    few : due_of old.committed (there.heights.record_page ∷ []) ≤ 1
    few = few_records old new c rewrite fresh_record written.changed rules located

    whole_index : length index ≡ index_pages_of old.format
    whole_index = (All-contains (IsWholeTile old.format) old.staged there rules.staged.whole (found old new c rewrite fresh_record written.changed rules located).1.0).heights.index_pages

    fresh_there : i / 1024 < length index → due_of old.committed (written.index_page ∷ []) ≡ 1
    fresh_there below =
        due_one old.committed written.index_page
        (subst (λ (tiles : List TileLocation). ¬ Contains (reached tiles) written.index_page) (ap (λ (x : PageMapValue). x.committed) written.changed) (written.fresh_index (omega (arith, below, whole_index))).unreached)

    more : due_of old.committed (slice_set index (i / 1024) written.index_page) ≤ due_of old.committed index + index_page_by old.format.version
    more = due_set_by old.committed (i / 1024) written.index_page old.format.version (pages_of old.format.side) index whole_index fresh_there

    pub written_due : length (pages_due new) ≤ length (pages_due old) + (1 + index_page_by old.format.version)
    written_due = omega (arith, counted, more)

    pub written_due_same : HasFreshHeights c old → length (pages_due new) ≤ length (pages_due old) + index_page_by old.format.version
    written_due_same had = omega (arith, counted, more, had_record old new c rewrite fresh_record written.changed rules located had)

    pub written_due_before : length (pages_due old) ≤ length (pages_due new)
    written_due_before = omega (arith, counted, few, (due_set old.committed index (i / 1024) written.index_page fresh_there).0)

    pub written_here : HasFreshHeights c new
    written_here = staged_here old new c rewrite fresh_record written.changed rules located

-- the case of a prepared tile
module _ (old new : PageMapValue) (c : Corner) (rules : IsPageMap old) (prepared : IsPrepared c old new) where
  abbrev prepare : PlaneLocation → PlaneLocation
  prepare p = record p { record_page = prepared.record_page }

  prepared_record : (p : PlaneLocation) → IsFresh new (prepare p).record_page
  prepared_record p = prepared.fresh_record

  pub prepared_still : (other : Corner) → HasFreshHeights other old → HasFreshHeights other new
  prepared_still = staged_still old new c prepare prepared_record prepared.changed

  module _ (located : IsLocated c old.staged) where
    pub prepared_due : length (pages_due new) ≤ length (pages_due old) + 1
    prepared_due = omega (arith, moved_due old new c prepare prepared_record prepared.changed rules located)

    pub prepared_due_same : HasFreshHeights c old → length (pages_due new) ≡ length (pages_due old)
    prepared_due_same had =
        omega (arith, moved_due old new c prepare prepared_record prepared.changed rules located, had_record old new c prepare prepared_record prepared.changed rules located had)

    pub prepared_located : HasFreshHeights c new
    prepared_located = staged_here old new c prepare prepared_record prepared.changed rules located

-- ---- changes of kept planes
pub other_due : (old new : PageMapValue) (c : Corner) (kept : Option KeptLocations) → new ≡ record old { staged = other_kept c kept old.staged } → IsPageMap old → IsLocated c old.staged
    → length (pages_due new) ≤ length (pages_due old) + length (listing_of_kept kept)
other_due old new c kept changed rules located =
    let found = the_tile old new c (λ t. record t { kept = kept }) rules located changed in
    let t : TileLocation = found.0 in
    let was = due_append old.committed (listing_of t.heights) (listing_of_kept t.kept) in
    let now = due_append old.committed (listing_of t.heights) (listing_of_kept kept) in
    omega (arith, found.1.2, was, now, due_few old.committed (listing_of_kept kept))

pub kept_more : (old new : PageMapValue) (c : Corner) → AreKept c old new → IsPageMap old → IsLocated c old.staged → length (pages_due new) ≤ length (pages_due old) + 2 * (1 + index_pages_of old.format)
kept_more old new c anew rules located =
    omega (arith, other_due old new c (Some anew.locations) anew.changed rules located, length-append (listing_of anew.locations.levels) (listing_of anew.locations.labels), anew.whole.levels.index_pages, anew.whole.labels.index_pages)

-- ---- an added tile
due_added : (committed : List TileLocation) (t : TileLocation) (tiles : List TileLocation) → due_of committed (listings (with_tile_location t tiles)) ≡ due_of committed (listing_of_tile t) + due_of committed (listings tiles)
due_added committed t [] = due_cons committed t []
due_added committed t (u ∷ rest) =
    let later = due_added committed t rest in
    let was = due_cons committed u rest in
    let behind = due_cons committed u (with_tile_location t rest) in
    let front = due_cons committed t (u ∷ rest) in
    elim (is_before t.corner u.corner) as (λ (v : Bool). due_of committed (listings (if v then t ∷ (u ∷ rest) else u ∷ with_tile_location t rest)) ≡ due_of committed (listing_of_tile t) + due_of committed (listings (u ∷ rest))) [
      | true ↦ front
      | false ↦ omega (arith, later, was, behind)
    ]

pub corners_added : (t : TileLocation) (tiles : List TileLocation) → corners_of_locations (with_tile_location t tiles) ≡ with_corner t.corner (corners_of_locations tiles)
corners_added t [] = refl
corners_added t (u ∷ rest) = by_test (is_before t.corner u.corner) (corners_added t rest)
  where
    by_test : (v : Bool) → corners_of_locations (with_tile_location t rest) ≡ with_corner t.corner (corners_of_locations rest) → corners_of_locations (if v then t ∷ (u ∷ rest) else u ∷ with_tile_location t rest) ≡ (if v then t.corner ∷ (u.corner ∷ corners_of_locations rest) else u.corner ∷ with_corner t.corner (corners_of_locations rest))
    by_test true later = refl
    by_test false later = ap (λ (l : List Corner). u.corner ∷ l) later

module _ (old new : PageMapValue) (c : Corner) (added : IsAdded c old new) where
  abbrev one_more : TileLocation
  one_more = record { corner = c; heights = added.location; kept = None }

  all_fresh : All (λ q. ¬ Contains (reached old.committed) q) (listing_of added.location)
  all_fresh =
      All-weaker (IsFresh new) (λ q. ¬ Contains (reached old.committed) q)
      (λ q fresh. subst (λ (tiles : List TileLocation). ¬ Contains (reached tiles) q) (ap (λ (x : PageMapValue). x.committed) added.changed) fresh.unreached) (listing_of added.location)
      (All-front (IsFresh new) (listing_of added.location) added.location.pages added.fresh)

  pub added_due : length (pages_due new) ≡ length (pages_due old) + (1 + index_pages_of old.format)
  added_due =
      let now = ap (λ (x : PageMapValue). length (pages_due x)) added.changed ∙ due_is (record old { staged = with_tile_location one_more old.staged }) in
      let whole = due_append old.committed (listing_of added.location) [] in
      omega (arith, now, due_is old, due_added old.committed one_more old.staged, whole, due_nothing old.committed, due_all old.committed (listing_of added.location) all_fresh, added.whole.index_pages)

  pub added_here : HasFreshHeights c new
  added_here = (
    one_more,
    (
      subst (λ (tiles : List TileLocation). Contains tiles one_more) (sym (ap (λ (x : PageMapValue). x.staged) added.changed)) (added_there one_more old.staged),
      refl,
      All-head (IsFresh new) added.location.record_page (pages_behind added.location) added.fresh,
    ),
  )

  pub added_corners : corners_of_locations new.staged ≡ with_corner c (corners_of_locations old.staged)
  added_corners = ap (λ (x : PageMapValue). corners_of_locations x.staged) added.changed ∙ corners_added one_more old.staged

-- ---- a removed tile
due_filtered : (committed : List TileLocation) (p : TileLocation → Bool) (tiles : List TileLocation) → due_of committed (listings (filter p tiles)) ≤ due_of committed (listings tiles)
due_filtered committed p [] = omega arith
due_filtered committed p (t ∷ rest) =
    let later = due_filtered committed p rest in
    let was = due_cons committed t rest in
    let stays = due_cons committed t (filter p rest) in
    elim (p t) as (λ (v : Bool). due_of committed (listings (cond v (t ∷ filter p rest) (filter p rest))) ≤ due_of committed (listings (t ∷ rest))) [
      | true ↦ omega (arith, later, was, stays)
      | false ↦ omega (arith, later, was)
    ]

pub without_due : (old new : PageMapValue) (c : Corner) → new ≡ record old { staged = without_location c old.staged } → length (pages_due new) ≤ length (pages_due old)
without_due old new c removed =
    let now = ap (λ (x : PageMapValue). length (pages_due x)) removed ∙ due_is (record old { staged = without_location c old.staged }) in
    omega (arith, now, due_is old, due_filtered old.committed (λ t. not (is_at c t)) old.staged)
