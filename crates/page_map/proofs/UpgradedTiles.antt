-- A page map of the second version made from one of the first: data pages stay, and listing pages are taken from free
-- pages.
use Rattle.page_map.proofs.Prelude.{All, AreTaken, Corner, Entry, Format, FreePages, IsBefore, IsFresh, IsKept, KeepsPageRule, KeptLocations, List, None, Option, PlaneLocation, Rising, Some, TileEntry, TileLocation, TilePlanes, ℕ, [], ap, append_assoc, arith, committed_tile, committed_tiles, cons_option, flat_map, flat_map-append, len, length, listing_of, map, mul-add, mul-le-mul_left, page_map_of, pages_of_kept, pages_of_plane, pages_of_tile, reached, refl, rising_from, staged_tiles, subst, sym, tile_at, tile_of, tile_planes, times, ◌*◌, ◌++◌, ◌+◌, ◌<◌, ◌∙◌, ◌∷◌, ◌≡◌, ◌≤◌}
use Rattle.std.proofs.lemmas.List.{get_or-map, length-append, length-map, map-append}
use Rattle.std.proofs.lemmas.List.Elements.{All-from_recursion}
use Rattle.page_map.specs.Upgraded.{KeptData, TileData, data_of, data_of_kept, listing_of_kept, listing_of_tile, listings}
use Rattle.page_map.proofs.Times.{times-append, all_numbers, times_of_member}
use Rattle.page_map.proofs.FreeTimes.{balanced_as, page_at, page_le, taken-append}
use Rattle.page_map.proofs.EntryLists.{committed_own, corner_of, counted_tiles, rising_before, rising_map, rising_tiles}
use Rattle.page_map.proofs.PageMapRules.{page_rule}

-- ---- data pages, and listing pages
abbrev pub kept_data : Option KeptData → List ℕ
kept_data None = []
kept_data (Some k) = k.levels ++ k.labels

abbrev pub data_pages : TileData → List ℕ
data_pages d = d.heights ++ kept_data d.kept

abbrev pub all_data : List TileData → List ℕ
all_data tiles = flat_map data_pages tiles

plane_split : (p : ℕ) (l : PlaneLocation) → times p (pages_of_plane l) ≡ times p (listing_of l) + times p l.pages
plane_split p l = times-append p (listing_of l) l.pages

kept_split : (p : ℕ) (kept : Option KeptLocations) → times p (pages_of_kept kept) ≡ times p (listing_of_kept kept) + times p (kept_data (data_of_kept kept))
kept_split p None = refl
kept_split p (Some k) =
    let all = times-append p (pages_of_plane k.levels) (pages_of_plane k.labels) in
    let lists = times-append p (listing_of k.levels) (listing_of k.labels) in
    let pages = times-append p k.levels.pages k.labels.pages in
    let levels = plane_split p k.levels in
    let labels = plane_split p k.labels in
    omega (arith, all, lists, pages, levels, labels)

tile_split : (p : ℕ) (t : TileLocation) → times p (pages_of_tile t) ≡ times p (listing_of_tile t) + times p (data_pages (data_of t))
tile_split p t =
    let all = times-append p (pages_of_plane t.heights) (pages_of_kept t.kept) in
    let lists = times-append p (listing_of t.heights) (listing_of_kept t.kept) in
    let pages = times-append p t.heights.pages (kept_data (data_of_kept t.kept)) in
    let heights = plane_split p t.heights in
    let kept = kept_split p t.kept in
    omega (arith, all, lists, pages, heights, kept)

pub tiles_split : (p : ℕ) (tiles : List TileLocation) → times p (reached tiles) ≡ times p (listings tiles) + times p (all_data (map data_of tiles))
tiles_split p [] = refl
tiles_split p (t ∷ rest) =
    let all = times-append p (pages_of_tile t) (reached rest) in
    let lists = times-append p (listing_of_tile t) (listings rest) in
    let pages = times-append p (data_pages (data_of t)) (all_data (map data_of rest)) in
    let here = tile_split p t in
    let later = tiles_split p rest in
    omega (arith, all, lists, pages, here, later)

listings-append : (p : ℕ) (xs ys : List TileLocation) → times p (listings (xs ++ ys)) ≡ times p (listings xs) + times p (listings ys)
listings-append p xs ys = ap (times p) (flat_map-append listing_of_tile xs ys) ∙ times-append p (listings xs) (listings ys)

data-append : (p : ℕ) (xs ys : List TileData) → times p (all_data (xs ++ ys)) ≡ times p (all_data xs) + times p (all_data ys)
data-append p xs ys = ap (times p) (flat_map-append data_pages xs ys) ∙ times-append p (all_data xs) (all_data ys)

-- ---- corners
pub unmapped : {X Y : Type 0} (P : Y → Type 0) (f : X → Y) (xs : List X) → All P (map f xs) → All (λ x. P (f x)) xs
unmapped P f xs all k d lt = subst P (get_or-map f xs k d (f d) lt) (all k (f d) (omega (arith, lt, length-map xs f)))

-- ---- one tile after another
module _ (format : Format) (entries : List Entry) (free : FreePages) (kept : IsKept format entries free) (clean : staged_tiles entries ≡ committed_tiles entries) where
  -- Pages that were free are fresh.
  pub fresh_listings : (tiles : List TileLocation) (now : FreePages) → AreTaken (listings tiles) free now → All (IsFresh (page_map_of format entries free)) (listings tiles)
  fresh_listings tiles now taken =
      all_numbers (IsFresh (page_map_of format entries free)) (listings tiles) (λ p some.
      let few = page_le free.range p in
      let page = page_at free.range p (omega (arith, some, taken.each p, counted_tiles format entries free kept p)) in
      record {
        low = page.0;
        high = page.1;
        unreached = λ member. (let there = times_of_member (reached (committed_tiles entries)) p member in absurd (omega (arith, there, some, few, taken.each p, counted_tiles format entries free kept p)));
      })

  -- the tiles so far with the same data pages, and the remaining ones
  module _ (made : List TileLocation) (c : Corner) (s : TileEntry) (rest : List Entry) (alike : map data_of made ++ map data_of (committed_tiles ((c, s) ∷ rest)) ≡ map data_of (committed_tiles entries)) where
    -- an entry without a committed tile
    pub no_more : s.heights.committed ≡ None → map data_of made ++ map data_of (committed_tiles rest) ≡ map data_of (committed_tiles entries)
    no_more none = ap (λ (o : Option PlaneLocation). map data_of made ++ map data_of (cons_option (tile_of c o s.levels.committed s.labels.committed) (committed_tiles rest))) (sym none) ∙ alike

    module _ (heights : PlaneLocation) (has : s.heights.committed ≡ Some heights) where
      abbrev planes : TilePlanes
      planes = tile_planes heights s.levels.committed s.labels.committed

      abbrev old_data : TileData
      old_data = data_of (tile_at c planes)

      all_joined : map data_of made ++ old_data ∷ map data_of (committed_tiles rest) ≡ map data_of (committed_tiles entries)
      all_joined = ap (λ (o : Option PlaneLocation). map data_of made ++ map data_of (cons_option (tile_of c o s.levels.committed s.labels.committed) (committed_tiles rest))) (sym has) ∙ alike

      pub room_below : length made < length (committed_tiles entries)
      room_below =
          omega (arith, ap length all_joined, length-append (map data_of made) (old_data ∷ map data_of (committed_tiles rest)), length-map made data_of, length-map (committed_tiles entries) data_of)

      -- The remaining free pages suffice for the next tile.
      pub room_next : (each left : ℕ) → each * length (committed_tiles entries) ≤ len free.free → len free.free ≤ left + each * length made → each ≤ left
      room_next each left all used =
          let more : each * (length made + 1) ≤ each * length (committed_tiles entries) = mul-le-mul_left each (omega (arith, room_below)) in
          let split : each * (length made + 1) ≡ each * length made + each * 1 = mul-add each (length made) 1 in
          omega (arith, more, split, all, used)

      pub all_before : All (λ t. IsBefore t.corner c) made
      all_before =
          let in_order = rising_tiles committed_tile committed_own entries (rising_from corner_of entries kept.in_order) in
          let rising : Rising (λ (d : TileData). d.corner) (map data_of made ++ old_data ∷ map data_of (committed_tiles rest)) = subst (Rising (λ (d : TileData). d.corner)) (sym all_joined) (rising_map data_of (λ (d : TileData). d.corner) (committed_tiles entries) in_order) in
          unmapped (λ (d : TileData). IsBefore d.corner c) data_of made
          (All-from_recursion (λ (d : TileData). IsBefore d.corner c) (map data_of made) (rising_before (λ (d : TileData). d.corner) (map data_of made) old_data (map data_of (committed_tiles rest)) rising))

      module _ (new : TilePlanes) (same : data_of (tile_at c new) ≡ old_data) where
        abbrev tile : TileLocation
        tile = tile_at c new

        pub data_more : map data_of (made ++ tile ∷ []) ++ map data_of (committed_tiles rest) ≡ map data_of (committed_tiles entries)
        data_more =
            ap (λ (l : List TileData). l ++ map data_of (committed_tiles rest)) (map-append data_of made (tile ∷ []))
            ∙ (append_assoc (map data_of made) (data_of tile ∷ []) (map data_of (committed_tiles rest))
            ∙ (ap (λ (d : TileData). map data_of made ++ d ∷ map data_of (committed_tiles rest)) same ∙ all_joined))

        pub left_after : (each was left : ℕ) → len free.free ≤ was + each * length made → was ≤ left + each → len free.free ≤ left + each * length (made ++ tile ∷ [])
        left_after each was left before taken =
            let split : each * length (made ++ tile ∷ []) ≡ each * length made + each * 1 = ap (λ n. each * n) (length-append made (tile ∷ [])) ∙ mul-add each (length made) 1 in
            omega (arith, split, before, taken)

        module _ (now after : FreePages) (before : AreTaken (listings made) free now) (taken : AreTaken (listing_of new.heights ++ listing_of_kept new.kept) now after) where
          pub taken_more : AreTaken (listings (made ++ tile ∷ [])) free after
          taken_more =
              balanced_as (taken-append (listings made) (listing_of_tile tile) free now after before taken)
              (λ p. omega (arith, times-append p (listings made) (listing_of_tile tile), listings-append p made (tile ∷ []), times-append p (listing_of_tile tile) []))

          pub rule : KeepsPageRule free.range.sectors (made ++ tile ∷ [])
          rule = page_rule free.range (made ++ tile ∷ []) (λ p.
              let joined = ap (λ (l : List TileData). times p (all_data l)) (sym data_more) ∙ data-append p (map data_of (made ++ tile ∷ [])) (map data_of (committed_tiles rest)) in
              omega (arith, tiles_split p (made ++ tile ∷ []), tiles_split p (committed_tiles entries), joined, taken_more.each p, counted_tiles format entries free kept p))
