-- The entries of the staged tiles, found by their corners.
use Rattle.std.proofs.Common.{◌≡◌, ℕ, zero, suc, ◌+◌, ◌<◌, ◌^◌, IsTrue, List, [], ◌∷◌, ◌++◌, All, Contains, length, get_or, map, take, Bor, refl, sym, subst, ap, ap₂, ◌∙◌, arith, Option, Some, None, IfSome, IfNone, option_copied}
use Rattle.cow_tree.proofs.Prelude.{All-contains, All-contains_itself, All-head, All-map, AreInOrder, Corner, HasPlane, HasPlaneAt, Heights, IsLocated, IsPageMap, KeptLocations, Labels, Levels, PageMapValue, Plane, PlaneLocation, TileLocation, corners_of_locations, entry_of, entry_of_kept, is_corner, pages_behind, pages_of_kept, pages_of_plane, pages_of_tile, plane_of, reached, same_Some}
use Rattle.std.proofs.lemmas.List.{map_more}
use Rattle.page_codec.specs.Entries.{EntryValue, IsPage, AreKept, IsEntry}
use Rattle.page_map.specs.TileEntries.{kept_of}
use Rattle.cow_tree.specs.Entries.{NameCommitted}
use Rattle.page_map.proofs.Loading.{kept_back}
use Rattle.cow_tree.proofs.Standing.{All-back, each_tile}
use Rattle.cow_tree.proofs.Tiles.{one_at_corner, adjacent_map}

-- what names one of some tiles
named_from : (tiles : List TileLocation) (e : EntryValue) → Contains (map entry_of tiles) e → (u : TileLocation) × (Contains tiles u × (entry_of u ≡ e))
named_from [] e (k, below, here) = absurd (omega (arith, below))
named_from (t ∷ rest) e (zero, below, here) = (t, ((0, omega arith, refl), here))
named_from (t ∷ rest) e (suc k, below, here) = let (u, ((j, within, there), is)) = named_from rest e (k, omega (arith, below), here) in (u, ((suc j, omega (arith, within), there), is))

module _ (page_map : PageMapValue) (rules : IsPageMap page_map) where
  -- ---- the parts of a corner's entry
  module _ (c : Corner) (t : TileLocation) (has : Contains page_map.staged t) (at : t.corner ≡ c) where
    -- The planes found for the corner are the tile's planes.
    plane_is : (plane : Plane) (r : Option (Bor PlaneLocation)) → IfSome r (λ location. HasPlaneAt page_map.staged c plane location.now) → IfNone r (¬ HasPlane page_map.staged c plane) → option_copied r ≡ plane_of plane t
    plane_is plane (Some location) (u, (among, (here, lies_at))) none =
        sym lies_at ∙ ap (plane_of plane) (one_at_corner page_map.staged u t rules.staged.in_order among has (here ∙ sym at))
    plane_is plane None found none = by (plane_of plane t) refl
      where
        by : (o : Option PlaneLocation) → plane_of plane t ≡ o → None ≡ o
        by None is = refl
        by (Some location) is = absurd (none (location, (t, (has, (at, is)))))

    pub entry_is : (heights : PlaneLocation) (levels labels : Option (Bor PlaneLocation)) → HasPlaneAt page_map.staged c Heights heights
        → IfSome levels (λ location. HasPlaneAt page_map.staged c Levels location.now) → IfNone levels (¬ HasPlane page_map.staged c Levels)
        → IfSome labels (λ location. HasPlaneAt page_map.staged c Labels location.now) → IfNone labels (¬ HasPlane page_map.staged c Labels)
        → record { corner = c; heights = heights.record_page; kept = entry_of_kept (kept_of (option_copied levels) (option_copied labels)) } ≡ entry_of t
    entry_is heights levels labels (u, (among, (here, is))) has_levels no_levels has_labels no_labels =
        let same : u ≡ t = one_at_corner page_map.staged u t rules.staged.in_order among has (here ∙ sym at) in
        let kept_is : kept_of (option_copied levels) (option_copied labels) ≡ t.kept =
        ap₂ kept_of (plane_is Levels levels has_levels no_levels) (plane_is Labels labels has_labels no_labels) ∙ kept_back t.kept in
        ap₂ (λ (h : PlaneLocation) (k : Option KeptLocations). let e : EntryValue = record { corner = c; heights = h.record_page; kept = entry_of_kept k } in e) (sym (same_Some u.heights heights is) ∙ ap (λ (v : TileLocation). v.heights) same) kept_is
        ∙ ap (λ (d : Corner). let e : EntryValue = record { corner = d; heights = t.heights.record_page; kept = entry_of_kept t.kept } in e) (sym at)

  module _ (fits : page_map.sectors < 2 ^ 32) where
    pub entry_rules : (t : TileLocation) → Contains page_map.staged t → IsEntry (entry_of t)
    entry_rules t has =
        let all : All IsPage (reached page_map.staged) = λ k d lt. let low = rules.staged.page_rule.low k d lt in let high = rules.staged.page_rule.high k d lt in (omega (arith, low), omega (arith, high, fits)) in
        let pages : All IsPage (pages_of_tile t) = All-contains (λ u. All IsPage (pages_of_tile u)) page_map.staged t (each_tile IsPage page_map.staged all) has in
        record {
          corner = All-contains (λ u. IsTrue (is_corner u.corner)) page_map.staged t rules.staged.corners has;
          heights = All-head IsPage t.heights.record_page (pages_behind t.heights ++ pages_of_kept t.kept) pages;
          kept = kept_rules t.kept (All-back IsPage (pages_of_plane t.heights) (pages_of_kept t.kept) pages);
        }
      where
        kept_rules : (kept : Option KeptLocations) → All IsPage (pages_of_kept kept) → IfSome (entry_of_kept kept) AreKept
        kept_rules None pages = tt
        kept_rules (Some k) pages = record {
          levels = All-head IsPage k.levels.record_page (pages_behind k.levels ++ pages_of_plane k.labels) pages;
          labels = All-head IsPage k.labels.record_page (pages_behind k.labels) (All-back IsPage (pages_of_plane k.levels) (pages_of_plane k.labels) pages);
        }

    pub entries_rules : All IsEntry (map entry_of page_map.staged)
    entries_rules = All-map IsEntry entry_of page_map.staged (λ k d lt. entry_rules (get_or page_map.staged k d) (All-contains_itself page_map.staged k d lt))

  pub entries_in_order : AreInOrder (map entry_of page_map.staged)
  entries_in_order = adjacent_map entry_of (λ e. e.corner) page_map.staged rules.staged.in_order

  -- the committed tiles' entries name them
  pub committed_named : (entries : List EntryValue) → map entry_of page_map.committed ≡ entries → NameCommitted entries page_map
  committed_named entries are e among t has at =
      let (u, (has_u, is)) = named_from page_map.committed e (subst (λ (l : List EntryValue). Contains l e) (sym are) among) in
      sym is ∙ ap entry_of (one_at_corner page_map.committed u t rules.committed.in_order has_u has (ap (λ (x : EntryValue). x.corner) is ∙ sym at))

-- ---- the tile of the next corner
pub tile_at : (tiles : List TileLocation) (k : ℕ) (c : Corner) → k < length (corners_of_locations tiles) → c ≡ get_or (corners_of_locations tiles) k c
    → (t : TileLocation) × ((k < length tiles) × ((get_or tiles k t ≡ t) × (t.corner ≡ c)))
tile_at [] k c lt is = absurd (omega (arith, lt))
tile_at (t ∷ rest) zero c lt is = (t, (omega arith, (refl, sym is)))
tile_at (t ∷ rest) (suc k) c lt is = let next = tile_at rest k c (omega (arith, lt)) is in (next.0, (omega (arith, next.1.0), next.1.1))

pub one_entry_more : (tiles : List TileLocation) (k : ℕ) (c : Corner) (entries : List EntryValue) (e : EntryValue) → k < length (corners_of_locations tiles) → c ≡ get_or (corners_of_locations tiles) k c
    → entries ≡ map entry_of (take k tiles) → ((t : TileLocation) → Contains tiles t → t.corner ≡ c → e ≡ entry_of t) → entries ++ e ∷ [] ≡ map entry_of (take (k + 1) tiles)
one_entry_more tiles k c entries e lt is so_far named =
    let (t, (below, (here, at))) = tile_at tiles k c lt is in
    ap₂ (λ (es : List EntryValue) (x : EntryValue). es ++ x ∷ []) so_far (named t (k, below, here) at ∙ ap entry_of (sym here)) ∙ sym (map_more entry_of tiles k t below)
