-- A tile staged without its kept planes or with others, and a removed tile.
use Rattle.page_map.proofs.Prelude.{All, AreBalanced, AreGiven, AreInUse, AreKept, Bool, Corner, Dropped, Format, FreePages, Fresh, IfSome, IsFresh, IsLocated, IsSome, IsWholePlane, KeptLocations, List, None, OnErr, OnOk, Option, PageMapValue, PlaneLocation, Refusal, Result, Some, Staged, TileEntry, TileLocation, [], ap, arith, cond, false, false≢true, filter, flat_map, fresh_in, is_at, length, length-append, not, on_err_weaker, on_ok_weaker, other_kept, pages_of_kept, pages_of_plane, plane_pages_of, refl, staged_as, staged_plane, subst, suc, sym, tile_at, times, true, without_location, ◌*◌, ◌++◌, ◌∙◌, ◌∷◌, ◌≡◌, ◌≤◌}
use Rattle.page_map.specs.TileEntries.{fresh_by, fresh_kept, fresh_kept_by, fresh_pages, kept_of, page_map_of, planes_at, staged_tile, staged_tiles, tile_of, tile_planes, used_pages, with_planes, AreTogether, Entry, IsKept, IsKeptAnew, IsSound}
use Rattle.page_map.proofs.Times.{all_numbers, times-append}
use Rattle.page_map.proofs.PlaneChanges.{used_split}
use Rattle.page_map.proofs.Refused.{done_or_not}
use Rattle.page_map.proofs.Room.{fresh_lengths, plane_few}
use Rattle.page_map.proofs.Clean.{none_kept_at}
use Rattle.page_map.proofs.FreeTimes.{balanced_as}
use Rattle.page_map.proofs.EntryLists.{fresh_parts, used_parts}
use Rattle.page_map.proofs.EntryChanges.{entry_fresh, kept_change, kept_unchanged, made_kept, made_page_map, no_more_kept, page_map_changed, same_committed_tiles, staged_without}
use Rattle.page_map.proofs.AtEntry.{at_page_map, heights_present, kept_as_put, kept_there, present, put_is, rising_there, same_page_map, sound, split}
use Rattle.page_map.proofs.Lookup.{there}

-- the same tile with other kept planes
other_kept_planes : (c : Corner) (h l m k n : Option PlaneLocation) (t : TileLocation) → tile_of c h l m ≡ Some t → tile_of c h k n ≡ Some (record t { kept = kept_of k n })
other_kept_planes c None l m k n t had = cc
other_kept_planes c (Some h) l m k n t had =
    let same : tile_at c (tile_planes h l m) ≡ t = cc in
    ap (λ (u : TileLocation). let e : Option TileLocation = Some (record u { kept = kept_of k n }) in e) same

bare_together : (h : Option PlaneLocation) → AreTogether h None None
bare_together None = tt
bare_together (Some h) = tt

kept_together : (h : Option PlaneLocation) (l m : PlaneLocation) → IsSome h → AreTogether h (Some l) (Some m)
kept_together None l m some = absurd (false≢true some)
kept_together (Some h) l m some = tt

some_tile : (o : Option TileLocation) → IsSome o → (t : TileLocation) × (o ≡ Some t)
some_tile None some = absurd (false≢true some)
some_tile (Some t) some = (t, refl)

-- If no entry had fresh pages of kept planes, only the changed entry has some.
only_kept : (before : List Entry) (s new : Entry) (after : List Entry) → length (flat_map fresh_kept_by (before ++ s ∷ after)) ≡ 0 → length (flat_map fresh_kept_by (before ++ new ∷ after)) ≡ length (fresh_kept_by new)
only_kept [] s new after none = omega (arith, none, length-append (fresh_kept_by s) (flat_map fresh_kept_by after), length-append (fresh_kept_by new) (flat_map fresh_kept_by after))
only_kept (b ∷ before) s new after none =
    let was = length-append (fresh_kept_by b) (flat_map fresh_kept_by (before ++ s ∷ after)) in
    let later = only_kept before s new after (omega arith) in
    omega (arith, none, later, length-append (fresh_kept_by b) (flat_map fresh_kept_by (before ++ new ∷ after)))

pub length-filter-le : {X : Type 0} (p : X → Bool) (xs : List X) → length (filter p xs) ≤ length xs
length-filter-le p [] = omega arith
length-filter-le p (x ∷ rest) = let later = length-filter-le p rest in elim (p x) as (λ b. length (cond b (x ∷ filter p rest) (filter p rest)) ≤ suc (length rest)) [ true ↦ omega arith | false ↦ omega arith ]

pub fresh_in_use : (s : TileEntry) (free : FreePages) → AreInUse (used_pages s) free → AreInUse (fresh_pages s) free
fresh_in_use s free in_use p = omega (arith, in_use p, used_parts p s, fresh_parts p s, used_split p s.heights, used_split p s.levels, used_split p s.labels)

pub fresh_kept_in_use : (s : TileEntry) (free : FreePages) → AreInUse (used_pages s) free → AreInUse (fresh_kept s) free
fresh_kept_in_use s free in_use p = omega (arith, fresh_in_use s free in_use p, times-append p (fresh_in s.heights) (fresh_kept s))

pub none_here : (format : Format) (entries : List Entry) (free : FreePages) → IsKept format entries free → (c : Corner) (s : TileEntry) → planes_at c entries ≡ Some s → flat_map fresh_by entries ≡ [] → fresh_kept s ≡ []
none_here format entries free kept c s found none =
    none_kept_at (there c entries s found).before (c, s) (there c entries s found).after (subst (λ (l : List Entry). flat_map fresh_by l ≡ []) (there c entries s found).split none)

module _ (format : Format) (entries : List Entry) (free : FreePages) (kept : IsKept format entries free) (c : Corner) (s : TileEntry) (found : planes_at c entries ≡ Some s)
    (located : IsLocated c (staged_tiles entries)) (now : FreePages) where
  abbrev before : List Entry
  before = (there c entries s found).before

  abbrev after : List Entry
  after = (there c entries s found).after

  was_kept : IsKept format (before ++ (c, s) ∷ after) free
  was_kept = kept_there format entries free kept c s found

  own : IsSound format (c, s)
  own = sound format entries free kept c s found

  tile : (t : TileLocation) × (staged_tile (c, s) ≡ Some t)
  tile = some_tile (staged_tile (c, s)) (present format entries free kept c s found located)

  -- ---- changes of kept planes
  module _ (g k : Staged) where
    abbrev levels_as : Option PlaneLocation
    levels_as = staged_as s.levels.committed g

    abbrev labels_as : Option PlaneLocation
    labels_as = staged_as s.labels.committed k

    abbrev new : TileEntry
    new = record s { levels = record (s.levels) { staged = g }; labels = record (s.labels) { staged = k } }

    abbrev make : TileLocation → TileLocation
    make t = record t { kept = kept_of levels_as labels_as }

    has : staged_tile (c, new) ≡ Some (make tile.0)
    has = other_kept_planes c (staged_plane s.heights) (staged_plane s.levels) (staged_plane s.labels) levels_as labels_as tile.0 tile.1

    module _ (balanced : AreBalanced (used_pages s) (used_pages new) free now) (levels_whole : IfSome levels_as (IsWholePlane format)) (labels_whole : IfSome labels_as (IsWholePlane format)) (together : AreTogether (staged_plane s.heights) levels_as labels_as) where
      sound_now : IsSound format (c, new)
      sound_now = record {
        corner = own.corner;
        heights = own.heights;
        levels = record { committed = own.levels.committed; staged = levels_whole };
        labels = record { committed = own.labels.committed; staged = labels_whole };
        committed = own.committed;
        staged = together;
      }

      pub changed_kept : length (flat_map fresh_kept_by (before ++ (c, new) ∷ after)) ≤ 2 * plane_pages_of format → IsKept format (before ++ (c, new) ∷ after) now
      changed_kept few = made_kept format before c s new after free now was_kept balanced refl tile.0 make tile.1 has sound_now few

      pub changed_page_map : (put : List Entry) → put ≡ with_planes c new entries → page_map_of format put now ≡ record (page_map_of format entries free) { staged = other_kept c (kept_of levels_as labels_as) (staged_tiles entries) }
      changed_page_map put puts =
          at_page_map format entries free kept c s found new now put puts (λ (x y : PageMapValue). y ≡ record x { staged = other_kept c (kept_of levels_as labels_as) x.staged })
          (made_page_map format before c s new after free now was_kept balanced refl tile.0 make tile.1 has)

  -- ---- removal of kept planes
  abbrev bare : TileEntry
  bare = record s { levels = record (s.levels) { staged = Dropped }; labels = record (s.labels) { staged = Dropped } }

  module _ (put : List Entry) (puts : put ≡ with_planes c bare entries) (given : AreGiven (fresh_kept s) free now) where
    bare_balanced : AreBalanced (used_pages s) (used_pages bare) free now
    bare_balanced =
        balanced_as given
        (λ p. omega (arith, times-append p (fresh_in s.levels) (fresh_in s.labels), used_parts p s, used_parts p bare, used_split p s.levels, used_split p s.labels, used_split p bare.levels, used_split p bare.labels))

    pub bared : (v : PageMapValue) → page_map_of format entries free ≡ v → IsKept format put now × (page_map_of format put now ≡ record v { staged = other_kept c None v.staged })
    bared v is = (
      kept_as_put format entries free kept c s found bare now put puts
          (changed_kept Dropped Dropped bare_balanced tt tt (bare_together (staged_plane s.heights)) (omega (arith, was_kept.kept_room, no_more_kept before (c, s) (c, bare) after (omega arith)))),
      changed_page_map Dropped Dropped bare_balanced tt tt (bare_together (staged_plane s.heights)) put puts ∙ ap (λ (x : PageMapValue). record x { staged = other_kept c None x.staged }) is,
    )

  -- ---- kept planes on fresh pages
  module _ (none : flat_map fresh_by entries ≡ []) where
    none_kept : length (flat_map fresh_kept_by (before ++ (c, s) ∷ after)) ≡ 0
    none_kept =
        let same = ap (λ (l : List Entry). length (flat_map fresh_kept_by l)) (split format entries free kept c s found) in
        let nothing = ap length none in
        omega (arith, same, nothing, fresh_lengths entries)

    module _ (other : TileEntry) (balanced : AreBalanced (used_pages s) (used_pages other) free now) where
      module _ (anew : IsKeptAnew format s other) where
        abbrev locations : KeptLocations
        locations = record { levels = anew.levels; labels = anew.labels }

        abbrev fresh_entry : TileEntry
        fresh_entry = record s { levels = record (s.levels) { staged = Fresh anew.levels }; labels = record (s.labels) { staged = Fresh anew.labels } }

        fresh_balanced : AreBalanced (used_pages s) (used_pages fresh_entry) free now
        fresh_balanced = subst (λ (x : TileEntry). AreBalanced (used_pages s) (used_pages x) free now) anew.changed balanced

        together : AreTogether (staged_plane s.heights) (Some anew.levels) (Some anew.labels)
        together = kept_together (staged_plane s.heights) anew.levels anew.labels (heights_present format entries free kept c s found located)

        fresh_is : fresh_kept fresh_entry ≡ pages_of_kept (Some locations)
        fresh_is = subst (λ (x : TileEntry). fresh_kept x ≡ pages_of_kept (Some locations)) anew.changed anew.fresh

        fresh_there : IsKept format (before ++ (c, fresh_entry) ∷ after) now
        fresh_there =
            changed_kept (Fresh anew.levels) (Fresh anew.labels) fresh_balanced anew.whole_levels anew.whole_labels together
            (let size = ap length fresh_is in
            omega (arith, size, only_kept before (c, s) (c, fresh_entry) after none_kept, length-append (pages_of_plane anew.levels) (pages_of_plane anew.labels), plane_few format anew.levels anew.whole_levels, plane_few format anew.labels anew.whole_labels))

        anew_there : IsKept format (before ++ (c, other) ∷ after) now
        anew_there = subst (λ (x : TileEntry). IsKept format (before ++ (c, x) ∷ after) now) (sym anew.changed) fresh_there

        kept_now : (put : List Entry) → put ≡ with_planes c other entries → AreKept c (page_map_of format entries free) (page_map_of format put now)
        kept_now put puts =
            let puts_fresh : put ≡ with_planes c fresh_entry entries = puts ∙ ap (λ (x : TileEntry). with_planes c x entries) anew.changed in
            record {
              locations = locations;
              whole = record { levels = anew.whole_levels; labels = anew.whole_labels };
              fresh = subst (λ (l : List Entry). All (IsFresh (page_map_of format l now)) (pages_of_kept (Some locations))) (sym (put_is format entries free kept c s found fresh_entry now put puts_fresh))
                  (all_numbers (IsFresh (page_map_of format (before ++ (c, fresh_entry) ∷ after) now)) (pages_of_kept (Some locations)) (λ p some.
                  entry_fresh format before (c, fresh_entry) after now fresh_there p
                  (let same = ap (times p) fresh_is in omega (arith, some, same, times-append p (fresh_in s.heights) (fresh_kept fresh_entry)))));
              changed = changed_page_map (Fresh anew.levels) (Fresh anew.labels) fresh_balanced anew.whole_levels anew.whole_labels together put puts_fresh;
            }

      module _ (put : List Entry) (puts : put ≡ with_planes c other entries) (r : Result (Unit {0}) Refusal) (told : OnOk r (IsKeptAnew format s other)) where
        pub kept_anew : OnErr r (other ≡ s) → IsKept format put now
        kept_anew unchanged =
            kept_as_put format entries free kept c s found other now put puts (done_or_not r (λ _. anew_there) (kept_unchanged format before c s other after free now was_kept balanced) told unchanged)

        pub are_kept : OnOk r (AreKept c (page_map_of format entries free) (page_map_of format put now))
        are_kept = on_ok_weaker r (λ anew. kept_now anew put puts) told

        pub same_kept : OnErr r (other ≡ s) → OnErr r (page_map_of format put now ≡ page_map_of format entries free)
        same_kept unchanged = on_err_weaker r (same_page_map format entries free kept c s found other now put puts balanced.same_range) unchanged

  -- ---- a removed tile
  abbrev without : TileEntry
  without = record s { heights = record (s.heights) { staged = Dropped }; levels = record (s.levels) { staged = Dropped }; labels = record (s.labels) { staged = Dropped } }

  module _ (put : List Entry) (puts : put ≡ with_planes c without entries) (given : AreGiven (fresh_pages s) free now) where
    without_balanced : AreBalanced (used_pages s) (used_pages without) free now
    without_balanced =
        balanced_as given
        (λ p. omega (arith, fresh_parts p s, used_parts p s, used_parts p without, used_split p s.heights, used_split p s.levels, used_split p s.labels, used_split p without.heights, used_split p without.levels, used_split p without.labels))

    removed_tiles : staged_tiles (before ++ (c, without) ∷ after) ≡ without_location c (staged_tiles (before ++ (c, s) ∷ after))
    removed_tiles = staged_without before (c, s) after (rising_there format entries free kept c s found) tile.0 tile.1 (c, without) refl

    pub removed : (v : PageMapValue) → page_map_of format entries free ≡ v → IsKept format put now × (page_map_of format put now ≡ record v { staged = without_location c v.staged })
    removed v is = (
      kept_as_put format entries free kept c s found without now put puts
          (kept_change format before c s without after free now was_kept
          (record {
            corner = own.corner;
            heights = record { committed = own.heights.committed; staged = tt };
            levels = record { committed = own.levels.committed; staged = tt };
            labels = record { committed = own.labels.committed; staged = tt };
            committed = own.committed;
            staged = tt;
          })
          (rw (same_committed_tiles before (c, s) (c, without) after refl) was_kept.committed_room)
          (rw removed_tiles (let fewer = length-filter-le (λ t. not (is_at c t)) (staged_tiles (before ++ (c, s) ∷ after)) in omega (arith, fewer, was_kept.staged_room)))
          (omega (arith, was_kept.kept_room, no_more_kept before (c, s) (c, without) after (omega arith))) without_balanced),
      at_page_map format entries free kept c s found without now put puts (λ (x y : PageMapValue). y ≡ record x { staged = without_location c x.staged })
          (page_map_changed format before (c, s) (c, without) after free now without_balanced.same_range refl _ removed_tiles)
          ∙ ap (λ (x : PageMapValue). record x { staged = without_location c x.staged }) is,
    )
