-- A page map with one more entry.
use Rattle.page_map.proofs.Prelude.{AllByRecursion, AreBalanced, AreInUse, AreTaken, AsCommitted, Corner, Dropped, Equal, Format, FreePages, Fresh, Greater, IsTrue, IsWholePlane, Less, List, None, Option, Ordering, PlaneLocation, Some, Staged, TileEntry, TileLocation, ℕ, [], ap, ap₂, arith, before_not_back, cond, cons_option, corner_cmp, false, false≢true, filter_map, filter_map-append, flat_map, flat_map-append, fresh_as, fresh_in, insert_entry, is_before, is_corner, is_some, length, length-append, pages_of_plane, ranked_corners, refl, settled_plane, staged_as, staged_plane, subst, sym, times, true, used_in, ◌++◌, ◌<◌, ◌∙◌, ◌∷◌, ◌≡◌}
use Rattle.std.specs.Ordering.{MatchOrdering, is_eq, match_ordering}
use Rattle.lattice.proofs.Rising.{AllAfter, Rising, adjacent_from, after_later, rising_from}
use Rattle.page_map.specs.PageMaps.{PageMapValue, IsFresh, IsAdded, with_tile_location}
use Rattle.page_map.specs.TileEntries.{committed_tile, fresh_kept, fresh_kept_by, no_planes, page_map_of, planes_at, staged_tile, staged_tiles, tile_of, used_by, used_pages, AreAlike, AreInOrder, AreTogether, Entry, IsKept, IsSound, IsSoundPlane}
use Rattle.page_map.proofs.Times.{times-append, all_numbers}
use Rattle.page_map.proofs.FreeTimes.{balanced-append, balanced_same, in_use-first}
use Rattle.page_map.proofs.PlaneChanges.{taken_balanced, taken_fresh}
use Rattle.page_map.proofs.EntryLists.{corner_of, AllBefore, entry_in_use, rising_insert, rising_before, rising_after, staged_all}
use Rattle.page_map.proofs.EntryChanges.{all_middle, kept_change, no_more_kept, page_map_changed, same_committed_tiles, entry_fresh}

-- ---- an entry without planes
all_insert : (P : Entry → Type 0) (before : List Entry) (new : Entry) (after : List Entry) → P new → AllByRecursion P (before ++ after) → AllByRecursion P (before ++ new ∷ after)
all_insert P [] new after here all = (here, all)
all_insert P (b ∷ before) new after here all = (all.0, all_insert P before new after here all.1)

-- the entries before a corner and those after it, if it has none
record IsRoom (c : Corner) (entries : List Entry) (put : List Entry) : Type 0 where
  pub before : List Entry
  pub after : List Entry
  pub split : entries ≡ before ++ after
  pub earlier : AllBefore c before
  pub later : AllAfter corner_of c after
  pub puts : put ≡ before ++ (c, no_planes) ∷ after

room : (c : Corner) (entries : List Entry) → Rising corner_of entries → planes_at c entries ≡ None → IsRoom c entries (insert_entry corner_cmp entries c no_planes)
room c [] rising none = record { before = []; after = []; split = refl; earlier = tt; later = tt; puts = refl }
room c (e ∷ rest) rising none = by (corner_cmp c e.0) (ranked_corners c e.0) none (room c rest rising.1)
  where
    by : (o : Ordering) → MatchOrdering o (is_before c e.0 ≡ true) (c ≡ e.0) (is_before e.0 c ≡ true) → cond (is_eq o) (Some e.1) (planes_at c rest) ≡ None → (planes_at c rest ≡ None → IsRoom c rest (insert_entry corner_cmp rest c no_planes))
        → IsRoom c (e ∷ rest) (match_ordering o ((c, no_planes) ∷ e ∷ rest) ((e.0, no_planes) ∷ rest) (e ∷ insert_entry corner_cmp rest c no_planes))
    by Less is none further = record { before = []; after = e ∷ rest; split = refl; earlier = tt; later = (is, after_later corner_of c e.0 rest is rising.0); puts = refl }
    by Equal is none further = cc
    by Greater is none further =
        let found = further none in
        record { before = e ∷ found.before; after = found.after; split = ap (λ l. e ∷ l) found.split; earlier = (is, found.earlier); later = found.later; puts = ap (λ l. e ∷ l) found.puts }

module _ (c : Corner) (before after : List Entry) where
  no_pages : (pages : Entry → List ℕ) → pages (c, no_planes) ≡ [] → flat_map pages (before ++ (c, no_planes) ∷ after) ≡ flat_map pages (before ++ after)
  no_pages pages none = flat_map-append pages before ((c, no_planes) ∷ after) ∙ (ap (λ (l : List ℕ). flat_map pages before ++ (l ++ flat_map pages after)) none ∙ sym (flat_map-append pages before after))

  no_tiles : (tile_of : Entry → Option TileLocation) → tile_of (c, no_planes) ≡ None → filter_map tile_of (before ++ (c, no_planes) ∷ after) ≡ filter_map tile_of (before ++ after)
  no_tiles tile_of none =
      filter_map-append tile_of before ((c, no_planes) ∷ after) ∙ (ap (λ (o : Option TileLocation). filter_map tile_of before ++ cons_option o (filter_map tile_of after)) none ∙ sym (filter_map-append tile_of before after))

  empty_alike : IsTrue (is_corner c) → AllBefore c before → AllAfter corner_of c after → AreAlike (before ++ after) (before ++ (c, no_planes) ∷ after)
  empty_alike degrees earlier later format free is =
      let none : IsSoundPlane format (settled_plane None) = record { committed = tt; staged = tt } in (
        record {
          fits = is.fits;
          window = is.window;
          few = is.few;
          in_order = adjacent_from corner_of (before ++ (c, no_planes) ∷ after) (rising_insert before (c, no_planes) after earlier later (rising_from corner_of (before ++ after) is.in_order));
          sound = all_insert (IsSound format) before (c, no_planes) after (record { corner = degrees; heights = none; levels = none; labels = none; committed = tt; staged = tt }) is.sound;
          committed_room = rw (no_tiles committed_tile refl) is.committed_room;
          staged_room = rw (no_tiles staged_tile refl) is.staged_room;
          kept_room = rw (no_pages fresh_kept_by refl) is.kept_room;
          counted = λ p. let same = ap (times p) (no_pages used_by refl) in omega (arith, same, is.counted p);
        },
        ap₂ (λ (xs ys : List TileLocation). let v : PageMapValue = record { sectors = free.range.sectors; format = format; committed = xs; staged = ys } in v) (no_tiles committed_tile refl) (no_tiles staged_tile refl),
      )

none_from : (o : Option TileEntry) → is_some o ≡ false → o ≡ None
none_from None none = refl
none_from (Some s) none = absurd (false≢true (sym none))

pub placed_alike : (c : Corner) (entries : List Entry) → IsTrue (is_corner c) → AreInOrder entries → is_some (planes_at c entries) ≡ false → AreAlike entries (insert_entry corner_cmp entries c no_planes)
placed_alike c entries degrees in_order none =
    let found = room c entries (rising_from corner_of entries in_order) (none_from (planes_at c entries) none) in
    subst (λ (l : List Entry). AreAlike l (insert_entry corner_cmp entries c no_planes)) (sym found.split)
    (subst (λ (l : List Entry). AreAlike (found.before ++ found.after) l) (sym found.puts) (empty_alike c found.before found.after degrees found.earlier found.later))

-- ---- a tile inserted at its place
inserted : (t : TileLocation) (xs ys : List TileLocation) → AllByRecursion (λ u. is_before t.corner u.corner ≡ false) xs → AllByRecursion (λ u. is_before t.corner u.corner ≡ true) ys
    → xs ++ t ∷ ys ≡ with_tile_location t (xs ++ ys)
inserted t [] [] earlier later = refl
inserted t [] (y ∷ ys) earlier later = sym (ap (λ b. cond b (t ∷ (y ∷ ys)) (y ∷ with_tile_location t ys)) later.0)
inserted t (x ∷ xs) ys earlier later = ap (λ l. x ∷ l) (inserted t xs ys earlier.1 later) ∙ sym (ap (λ b. cond b (t ∷ (x ∷ (xs ++ ys))) (x ∷ with_tile_location t (xs ++ ys))) earlier.0)

-- ---- a tile added
-- the corner's entry, with fresh heights
abbrev pub with_fresh : TileEntry → PlaneLocation → TileEntry
with_fresh s location = record s { heights = record (s.heights) { staged = Fresh location } }

none_together : (l m : Option PlaneLocation) → AreTogether None l m → (l ≡ None) × (m ≡ None)
none_together None None together = (refl, refl)
none_together None (Some m) together = absurd together
none_together (Some l) None together = absurd together
none_together (Some l) (Some m) together = absurd together

none_staged : (o : Option PlaneLocation) (g : Staged) → staged_as o g ≡ None → fresh_as o g ≡ []
none_staged o AsCommitted none = refl
none_staged o Dropped none = refl
none_staged o (Fresh location) none = cc

no_heights : (c : Corner) (h l m : Option PlaneLocation) → tile_of c h l m ≡ None → h ≡ None
no_heights c None l m none = refl
no_heights c (Some h) l m none = cc

module _ (format : Format) (before : List Entry) (c : Corner) (s : TileEntry) (after : List Entry) (free now : FreePages) (is : IsKept format (before ++ (c, s) ∷ after) free) (none : staged_tile (c, s) ≡ None)
    (location : PlaneLocation) (whole : IsWholePlane format location) (taken : AreTaken (pages_of_plane location) free now) (room : length (staged_tiles (before ++ (c, s) ∷ after)) < format.capacity) where
  abbrev new : TileEntry
  new = with_fresh s location

  abbrev tile : TileLocation
  tile = record { corner = c; heights = location; kept = None }

  rising : Rising corner_of (before ++ (c, s) ∷ after)
  rising = rising_from corner_of (before ++ (c, s) ∷ after) is.in_order

  own : IsSound format (c, s)
  own = all_middle (IsSound format) before (c, s) after is.sound

  no_plane : staged_plane s.heights ≡ None
  no_plane = no_heights c (staged_plane s.heights) (staged_plane s.levels) (staged_plane s.labels) none

  others : (staged_plane s.levels ≡ None) × (staged_plane s.labels ≡ None)
  others = none_together (staged_plane s.levels) (staged_plane s.labels) (subst (λ (o : Option PlaneLocation). AreTogether o (staged_plane s.levels) (staged_plane s.labels)) no_plane own.staged)

  has : staged_tile (c, new) ≡ Some tile
  has = ap (λ (o : Option PlaneLocation). tile_of c (Some location) o (staged_plane s.labels)) others.0

  in_use : AreInUse (used_in s.heights) free
  in_use = in_use-first (used_in s.heights) (used_in s.levels ++ used_in s.labels) free (entry_in_use before (c, s) after free is.counted)

  balanced : AreBalanced (used_pages s) (used_pages new) free now
  balanced =
      balanced-append (used_in s.heights) (used_in new.heights) (used_in s.levels ++ used_in s.labels) free now
      (taken_balanced s.heights location free now in_use taken (none_staged s.heights.committed s.heights.staged no_plane))
      (used_in s.levels ++ used_in s.labels) now (balanced_same (used_in s.levels ++ used_in s.labels) now)

  together : AreTogether (Some location) (staged_plane s.levels) (staged_plane s.labels)
  together = subst (λ (o : Option PlaneLocation). AreTogether (Some location) o (staged_plane s.labels)) (sym others.0) (subst (λ (o : Option PlaneLocation). AreTogether (Some location) None o) (sym others.1) tt)

  old_tiles : staged_tiles (before ++ (c, s) ∷ after) ≡ staged_tiles before ++ staged_tiles after
  old_tiles = filter_map-append staged_tile before ((c, s) ∷ after) ∙ ap (λ (o : Option TileLocation). staged_tiles before ++ cons_option o (staged_tiles after)) none

  new_tiles : staged_tiles (before ++ (c, new) ∷ after) ≡ staged_tiles before ++ tile ∷ staged_tiles after
  new_tiles = filter_map-append staged_tile before ((c, new) ∷ after) ∙ ap (λ (o : Option TileLocation). staged_tiles before ++ cons_option o (staged_tiles after)) has

  pub kept_added : IsKept format (before ++ (c, new) ∷ after) now
  kept_added =
      kept_change format before c s new after free now is
      (record { corner = own.corner; heights = record { committed = own.heights.committed; staged = whole }; levels = own.levels; labels = own.labels; committed = own.committed; staged = together })
      (rw (same_committed_tiles before (c, s) (c, new) after refl) is.committed_room)
      (omega (arith, room, ap length old_tiles, ap length new_tiles, length-append (staged_tiles before) (staged_tiles after), length-append (staged_tiles before) (tile ∷ staged_tiles after)))
      (omega (arith, is.kept_room, no_more_kept before (c, s) (c, new) after (omega arith))) balanced

  pub is_added : IsAdded c (page_map_of format (before ++ (c, s) ∷ after) free) (page_map_of format (before ++ (c, new) ∷ after) now)
  is_added = record {
    location = location;
    whole = whole;
    fresh = all_numbers (IsFresh (page_map_of format (before ++ (c, new) ∷ after) now)) (pages_of_plane location)
        (λ p some. entry_fresh format before (c, new) after now kept_added p
        (let same = ap (times p) (taken_fresh s.heights location free now in_use taken) in omega (arith, some, same, times-append p (fresh_in new.heights) (fresh_kept new))));
    changed =
        page_map_changed format before (c, s) (c, new) after free now taken.same_range refl _
        (new_tiles
        ∙ (inserted tile (staged_tiles before) (staged_tiles after)
        (staged_all (λ d. is_before c d ≡ false) (AllBefore c) (λ x rest h. (before_not_back x.0 c h.0, h.1)) before (rising_before corner_of before (c, s) after rising))
        (staged_all (λ d. is_before c d ≡ true) (AllAfter corner_of c) (λ x rest h. (h.0, h.1)) after (rising_after before (c, s) after rising))
        ∙ ap (with_tile_location tile) (sym old_tiles)));
  }
