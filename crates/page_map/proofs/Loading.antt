-- A page map with one more committed tile, and with an added tile.
use Rattle.page_map.proofs.Prelude.{All, AllAfter, AllByRecursion, AreWholeKept, Corner, Format, IfSome, IsAdded, IsBefore, IsLocated, IsTrue, IsWholePlane, IsWholeTile, KeepsPageRule, KeptLocations, List, None, Option, PageMapValue, PlaneLocation, Some, TileEntry, TileLocation, TilePlanes, ℕ, [], ap, append-nil, ap₂, arith, cons_option, drop-append_seam, false, false_from_ne_true, false≢true, filter_map, flat_map, flat_map-append, is_before, is_corner, length, length-append, pages_at, pages_of_kept, pages_of_plane, pages_of_tile, reached, refl, subst, sym, tile_at, times, ◌++◌, ◌+◌, ◌<◌, ◌∙◌, ◌∷◌, ◌≡◌, ◌≤◌}
use Rattle.std.proofs.lemmas.List.Elements.{All-contains, All-drop, All-head, filter_map-append}
use Rattle.lattice.proofs.CornerOrder.{before_apart, before_not_back}
use Rattle.page_map.specs.FreePages.{FreePages, free_times, pages_of_planes, AreTaken}
use Rattle.page_map.specs.TileEntries.{committed_tile, committed_tiles, fresh_by, kept_of, labels_of, levels_of, loaded_planes, page_map_of, planes_at, staged_tile, staged_tiles, used_pages, with_planes, AreTogether, Entry, IsKept}
use Rattle.page_map.proofs.Times.{times-append, member_of_times}
use Rattle.page_map.proofs.FreeTimes.{balanced_as, page_one}
use Rattle.page_map.proofs.PlaneChanges.{used_settled}
use Rattle.page_map.proofs.EntryLists.{committed_own, corner_of, counted_tiles, pages_of_location, rising_after, staged_own, times-split, used_parts, used_tile}
use Rattle.page_map.proofs.EntryChanges.{kept_change, no_more_kept}
use Rattle.page_map.proofs.Clean.{none_fresh}
use Rattle.page_map.proofs.EntryInserts.{is_added, kept_added, with_fresh}
use Rattle.page_map.proofs.Lookup.{located_there, there}
use Rattle.page_map.proofs.AtEntry.{at_page_map, kept_as_put, kept_there, put_is, rising_there, sound, split}

-- ---- one more committed tile
pub kept_back : (kept : Option KeptLocations) → kept_of (levels_of kept) (labels_of kept) ≡ kept
kept_back None = refl
kept_back (Some k) = refl

loaded_tile : (c : Corner) (planes : TilePlanes) → committed_tile (c, loaded_planes planes) ≡ Some (tile_at c planes)
loaded_tile c planes = ap (λ (k : Option KeptLocations). let e : Option TileLocation = Some (record { corner = c; heights = planes.heights; kept = k }) in e) (kept_back planes.kept)

loaded_together : (h : PlaneLocation) (kept : Option KeptLocations) → AreTogether (Some h) (levels_of kept) (labels_of kept)
loaded_together h None = tt
loaded_together h (Some k) = tt

levels_whole : (format : Format) (kept : Option KeptLocations) → IfSome kept (AreWholeKept format) → IfSome (levels_of kept) (IsWholePlane format)
levels_whole format None whole = tt
levels_whole format (Some k) whole = whole.levels

labels_whole : (format : Format) (kept : Option KeptLocations) → IfSome kept (AreWholeKept format) → IfSome (labels_of kept) (IsWholePlane format)
labels_whole format None whole = tt
labels_whole format (Some k) whole = whole.labels

kept_pages : (p : ℕ) (kept : Option KeptLocations) → times p (pages_at (levels_of kept)) + times p (pages_at (labels_of kept)) ≡ times p (pages_of_kept kept)
kept_pages p None = refl
kept_pages p (Some k) = omega (arith, times-append p (pages_of_plane k.levels) (pages_of_plane k.labels))

loaded_pages : (p : ℕ) (planes : TilePlanes) → times p (used_pages (loaded_planes planes)) ≡ times p (pages_of_planes planes)
loaded_pages p planes =
    omega (arith, used_parts p (loaded_planes planes), used_settled p (Some planes.heights), used_settled p (levels_of planes.kept), used_settled p (labels_of planes.kept), kept_pages p planes.kept, times-append p (pages_of_plane planes.heights) (pages_of_kept planes.kept))

-- If all tiles are before a corner, entries that aren't before it have no tile.
none_from : (c : Corner) (tile_of : Entry → Option TileLocation) → ((x : Entry) → IfSome (tile_of x) (λ t. t.corner ≡ x.0)) → (rest : List Entry) → AllByRecursion (λ x. is_before x.0 c ≡ false) rest
    → All (λ t. IsBefore t.corner c) (filter_map tile_of rest) → filter_map tile_of rest ≡ []
none_from c tile_of own [] late all = refl
none_from c tile_of own (x ∷ rest) late all = by (tile_of x) (own x) all (none_from c tile_of own rest late.1)
  where
    by : (o : Option TileLocation) → IfSome o (λ t. t.corner ≡ x.0) → All (λ t. IsBefore t.corner c) (cons_option o (filter_map tile_of rest)) → (All (λ t. IsBefore t.corner c) (filter_map tile_of rest) → filter_map tile_of rest ≡ [])
        → cons_option o (filter_map tile_of rest) ≡ []
    by None is all later = later all
    by (Some t) is all later = absurd (false≢true (sym late.0 ∙ subst (λ (d : Corner). IsBefore d c) is (All-head (λ u. IsBefore u.corner c) t (filter_map tile_of rest) all)))

late_after : (c : Corner) (entries : List Entry) → AllAfter corner_of c entries → AllByRecursion (λ x. is_before x.0 c ≡ false) entries
late_after c [] after = tt
late_after c (x ∷ rest) after = (before_not_back c x.0 after.0, late_after c rest after.1)

no_option : (o : Option TileLocation) (rest : List TileLocation) → cons_option o rest ≡ [] → (o ≡ None) × (rest ≡ [])
no_option None rest none = (refl, none)
no_option (Some t) rest none = cc

module _ (format : Format) (entries : List Entry) (free : FreePages) (kept : IsKept format entries free) (clean : staged_tiles entries ≡ committed_tiles entries) (c : Corner) (planes : TilePlanes) where
  abbrev tiles : List TileLocation
  tiles = committed_tiles entries

  no_page_fresh : flat_map fresh_by entries ≡ []
  no_page_fresh = none_fresh format entries free kept clean

  pub rule_broken : ((p : ℕ) × (free_times free p < times p (pages_of_planes planes))) → KeepsPageRule free.range.sectors (tiles ++ tile_at c planes ∷ []) → ⊥
  rule_broken (p, less) rule =
      let all = ap (times p) (flat_map-append pages_of_tile tiles (tile_at c planes ∷ [])) ∙ times-append p (reached tiles) (reached (tile_at c planes ∷ [])) in
      let own = times-append p (pages_of_planes planes) [] in
      let none = ap (times p) no_page_fresh in
      let there : 1 ≤ times p (reached (tiles ++ tile_at c planes ∷ [])) = omega (arith, all, own) in
      let member = member_of_times (reached (tiles ++ tile_at c planes ∷ [])) p there in
      let page = page_one free.range p (All-contains (λ q. 4 ≤ q) (reached (tiles ++ tile_at c planes ∷ [])) p rule.low member, All-contains (λ q. q < free.range.sectors) (reached (tiles ++ tile_at c planes ∷ [])) p rule.high member) in
      omega (arith, all, own, rule.once p, page, counted_tiles format entries free kept p, none)

  -- the planes put into the corner's entry, which has none
  module _ (s : TileEntry) (found : planes_at c entries ≡ Some s) (all_before : All (λ t. IsBefore t.corner c) tiles) where
    abbrev before : List Entry
    before = (there c entries s found).before

    abbrev after : List Entry
    after = (there c entries s found).after

    abbrev loaded : TileEntry
    loaded = loaded_planes planes

    was_kept : IsKept format (before ++ (c, s) ∷ after) free
    was_kept = kept_there format entries free kept c s found

    module _ (tile_of : Entry → Option TileLocation) (own : (x : Entry) → IfSome (tile_of x) (λ t. t.corner ≡ x.0)) (same : filter_map tile_of entries ≡ tiles) where
      apart : filter_map tile_of entries ≡ filter_map tile_of before ++ filter_map tile_of ((c, s) ∷ after)
      apart = ap (filter_map tile_of) (split format entries free kept c s found) ∙ filter_map-append tile_of before ((c, s) ∷ after)

      none : filter_map tile_of ((c, s) ∷ after) ≡ []
      none =
          none_from c tile_of own ((c, s) ∷ after)
          (false_from_ne_true (is_before c c) (λ earlier. before_apart c c earlier refl), late_after c after (rising_after before (c, s) after (rising_there format entries free kept c s found)))
          (subst (All (λ t. IsBefore t.corner c)) (drop-append_seam (filter_map tile_of before) (filter_map tile_of ((c, s) ∷ after)))
          (All-drop (λ t. IsBefore t.corner c) (length (filter_map tile_of before)) (filter_map tile_of before ++ filter_map tile_of ((c, s) ∷ after)) (subst (All (λ t. IsBefore t.corner c)) (sym same ∙ apart) all_before)))

      none_here : tile_of (c, s) ≡ None
      none_here = (no_option (tile_of (c, s)) (filter_map tile_of after) none).0

      now_tiles : tile_of (c, loaded) ≡ Some (tile_at c planes) → filter_map tile_of (before ++ (c, loaded) ∷ after) ≡ tiles ++ tile_at c planes ∷ []
      now_tiles has =
          filter_map-append tile_of before ((c, loaded) ∷ after)
          ∙ (ap₂ (λ (o : Option TileLocation) (l : List TileLocation). filter_map tile_of before ++ cons_option o l) has (no_option (tile_of (c, s)) (filter_map tile_of after) none).1
          ∙ ap (λ (l : List TileLocation). l ++ tile_at c planes ∷ []) (sym (append-nil (filter_map tile_of before)) ∙ (ap (λ (l : List TileLocation). filter_map tile_of before ++ l) (sym none) ∙ (sym apart ∙ same))))

    now_committed : committed_tiles (before ++ (c, loaded) ∷ after) ≡ tiles ++ tile_at c planes ∷ []
    now_committed = now_tiles committed_tile committed_own refl (loaded_tile c planes)

    now_staged : staged_tiles (before ++ (c, loaded) ∷ after) ≡ tiles ++ tile_at c planes ∷ []
    now_staged = now_tiles staged_tile staged_own clean (loaded_tile c planes)

    used_none : (p : ℕ) → times p (used_pages s) ≡ 0
    used_none p =
        let committed = ap (λ (o : Option TileLocation). times p (pages_of_location o)) (none_here committed_tile committed_own refl) in
        let fresh = ap (times p) (ap (flat_map fresh_by) (sym (split format entries free kept c s found)) ∙ no_page_fresh) in
        omega (arith, committed, fresh, used_tile format p (c, s) (sound format entries free kept c s found), times-split fresh_by p before (c, s) after)

    module _ (degrees : IsTrue (is_corner c)) (room : length tiles < format.capacity) (whole : IsWholeTile format (tile_at c planes)) (now : FreePages) (taken : AreTaken (pages_of_planes planes) free now) (put : List Entry) (puts : put ≡ with_planes c loaded entries) where
      pub kept_loaded : IsKept format put now
      kept_loaded =
          let long = length-append tiles (tile_at c planes ∷ []) in
          kept_as_put format entries free kept c s found loaded now put puts
          (kept_change format before c s loaded after free now was_kept
          (record {
            corner = degrees;
            heights = record { committed = whole.heights; staged = whole.heights };
            levels = record { committed = levels_whole format planes.kept whole.kept; staged = levels_whole format planes.kept whole.kept };
            labels = record { committed = labels_whole format planes.kept whole.kept; staged = labels_whole format planes.kept whole.kept };
            committed = loaded_together planes.heights planes.kept;
            staged = loaded_together planes.heights planes.kept;
          })
          (rw now_committed (omega (arith, room, long))) (rw now_staged (omega (arith, room, long))) (omega (arith, was_kept.kept_room, no_more_kept before (c, s) (c, loaded) after (omega arith)))
          (balanced_as taken (λ p. omega (arith, used_none p, loaded_pages p planes))))

      pub page_map_loaded : page_map_of format put now ≡ record (page_map_of format entries free) { committed = tiles ++ tile_at c planes ∷ []; staged = tiles ++ tile_at c planes ∷ [] }
      page_map_loaded =
          let page_map : ℕ → List TileLocation → List TileLocation → PageMapValue = λ n a b. record { sectors = n; format = format; committed = a; staged = b } in
          ap (λ (l : List Entry). page_map_of format l now) (put_is format entries free kept c s found loaded now put puts)
          ∙ (ap (λ n. page_map n.sectors (committed_tiles (before ++ (c, loaded) ∷ after)) (staged_tiles (before ++ (c, loaded) ∷ after))) taken.same_range ∙ ap₂ (page_map free.range.sectors) now_committed now_staged)

-- ---- a tile added at an entry without one
module _ (format : Format) (entries : List Entry) (free now : FreePages) (kept : IsKept format entries free) (c : Corner) (location : PlaneLocation) (whole : IsWholePlane format location) (taken : AreTaken (pages_of_plane location) free now)
    (room : length (staged_tiles entries) < format.capacity) (s : TileEntry) (found : planes_at c entries ≡ Some s) (absent : ¬ IsLocated c (staged_tiles entries)) (put : List Entry) (puts : put ≡ with_planes c (with_fresh s location) entries) where
  abbrev before_it : List Entry
  before_it = (there c entries s found).before

  abbrev after_it : List Entry
  after_it = (there c entries s found).after

  no_tile : staged_tile (c, s) ≡ None
  no_tile = by (staged_tile (c, s)) refl
    where
      by : (o : Option TileLocation) → staged_tile (c, s) ≡ o → o ≡ None
      by None had = refl
      by (Some t) had =
          absurd (absent (subst (λ (l : List Entry). IsLocated c (staged_tiles l)) (sym (split format entries free kept c s found))
          (located_there before_it (c, s) after_it (rising_there format entries free kept c s found) t had)))

  room_there : length (staged_tiles (before_it ++ (c, s) ∷ after_it)) < format.capacity
  room_there = subst (λ (l : List Entry). length (staged_tiles l) < format.capacity) (split format entries free kept c s found) room

  pub kept_staged : IsKept format put now
  kept_staged =
      kept_as_put format entries free kept c s found (with_fresh s location) now put puts
      (kept_added format before_it c s after_it free now (kept_there format entries free kept c s found) no_tile location whole taken room_there)

  pub is_staged : IsAdded c (page_map_of format entries free) (page_map_of format put now)
  is_staged =
      at_page_map format entries free kept c s found (with_fresh s location) now put puts (IsAdded c)
      (is_added format before_it c s after_it free now (kept_there format entries free kept c s found) no_tile location whole taken room_there)
