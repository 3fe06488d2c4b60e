-- A page map in which the planes of one corner change.
use Rattle.page_map.proofs.Prelude.{AreBalanced, AreInUse, AsCommitted, Bor, Contains, Corner, Dropped, Format, FreePages, Fresh, HasFreshHeights, HasPlane, HasPlaneAt, IfNone, IfOk, IfSome, IsFresh, IsLocated, IsPrepared, IsRewritten, IsSome, IsWholePlane, List, None, OnErr, OnOk, Option, PageMapValue, PageRange, Plane, PlaneEntry, PlaneLocation, Refusal, Result, Rising, Some, Staged, TileEntry, TileLocation, ℕ, ap, arith, free_times, if◌then◌else◌, is_at, len, length, length-set, map, moved_plane, option_and_then, option_copied, pages_of, plane_of, reached, refl, rising_from, subst, sym, tile_at, times, true, ◌++◌, ◌+◌, ◌/◌, ◌<◌, ◌∙◌, ◌∷◌, ◌≡◌, ◌≤◌}
use Rattle.std.proofs.lemmas.Map.Steps.{set_value_same}
use Rattle.std.proofs.lemmas.Result.{IfOk-weaker, on_err_weaker, on_ok_weaker}
use Rattle.page_map.specs.PlaneEntries.{behind_at, fresh_as, fresh_in, is_fresh, is_fresh_as, staged_as, staged_plane, used_in, HasRoom, IsPageRestaged, IsRecordRestaged}
use Rattle.page_map.specs.TileEntries.{committed_tile, committed_tiles, fresh_kept, is_at_corner, named_plane, page_map_of, planes_at, staged_tile, staged_tiles, tile_of, tile_planes, used_pages, with_planes, AreTogether, Entry, IsKept, IsSound}
use Rattle.page_map.proofs.Times.{one-self, times-append, member_of_times}
use Rattle.page_map.proofs.FreeTimes.{balanced-append, balanced_same, page_le}
use Rattle.page_map.proofs.PlaneChanges.{behind_le, used_balanced, used_split}
use Rattle.page_map.proofs.Refused.{done_or_not}
use Rattle.page_map.proofs.Room.{room_for_heights}
use Rattle.page_map.proofs.EntryLists.{corner_of, entry_in_use, pages_of_location, reached_all, times-split, used_parts}
use Rattle.page_map.proofs.EntryChanges.{all_middle, entry_fresh, kept_unchanged, made_kept, made_page_map, no_more_kept, staged_corner}
use Rattle.page_map.proofs.Lookup.{located_here, plane_staged, there, tile_here, tile_is}

pub some_heights : (c : Corner) (h l m : Option PlaneLocation) → IsSome (tile_of c h l m) → IsSome h
some_heights c None l m some = some
some_heights c (Some h) l m some = refl

together_some : (a b : PlaneLocation) (l m : Option PlaneLocation) → AreTogether (Some a) l m → AreTogether (Some b) l m
together_some a b None None together = tt
together_some a b None (Some m) together = absurd together
together_some a b (Some l) None together = absurd together
together_some a b (Some l) (Some m) together = tt

module _ (format : Format) (entries : List Entry) (free : FreePages) (kept : IsKept format entries free) (c : Corner) (s : TileEntry) (found : planes_at c entries ≡ Some s) where
  abbrev before : List Entry
  before = (there c entries s found).before

  abbrev after : List Entry
  after = (there c entries s found).after

  pub split : entries ≡ before ++ (c, s) ∷ after
  split = (there c entries s found).split

  pub kept_there : IsKept format (before ++ (c, s) ∷ after) free
  kept_there = subst (λ (l : List Entry). IsKept format l free) split kept

  pub rising_there : Rising corner_of (before ++ (c, s) ∷ after)
  rising_there = rising_from corner_of (before ++ (c, s) ∷ after) kept_there.in_order

  pub present : IsLocated c (staged_tiles entries) → IsSome (staged_tile (c, s))
  present located = located_here before (c, s) after rising_there (subst (λ (l : List Entry). IsLocated c (staged_tiles l)) split located)

  pub sound : IsSound format (c, s)
  sound = all_middle (IsSound format) before (c, s) after kept_there.sound

  pub in_use : AreInUse (used_pages s) free
  in_use = entry_in_use before (c, s) after free kept_there.counted

  -- ---- its heights
  pub heights_present : IsLocated c (staged_tiles entries) → IsSome (staged_plane s.heights)
  heights_present located = some_heights c (staged_plane s.heights) (staged_plane s.levels) (staged_plane s.labels) (present located)

  pub index_within : (i : ℕ) → i < pages_of format.side → IfSome (staged_plane s.heights) (λ l. i < length l.pages)
  index_within i below = by (staged_plane s.heights) sound.heights.staged
    where
      by : (o : Option PlaneLocation) → IfSome o (IsWholePlane format) → IfSome o (λ l. i < length l.pages)
      by None whole = tt
      by (Some l) whole = omega (arith, below, whole.pages)

  pub apart : (p : ℕ) → times p (behind_at s.heights.committed) + free_times free p ≤ 1
  apart p = omega (arith, in_use p, page_le free.range p, behind_le p s.heights.committed, used_split p s.heights, used_parts p s)

  pub room : HasRoom s.heights (len free.free)
  room = room_for_heights format before (c, s) after free kept_there sound

  pub staged_before : HasFreshHeights c (page_map_of format entries free) → is_fresh s.heights ≡ true
  staged_before (t, there) =
      let among : Contains (staged_tiles (before ++ (c, s) ∷ after)) t = subst (λ (l : List Entry). Contains (staged_tiles l) t) split there.0 in
      by s.heights.committed s.heights.staged (tile_is before (c, s) after rising_there t among there.1)
      (λ h (here : s.heights.committed ≡ Some h). member_of_times (reached (committed_tiles entries)) h.record_page (
      let r = h.record_page in
      let whole = ap (λ (l : List Entry). times r (reached (committed_tiles l))) split ∙ ap (times r) (reached_all committed_tile (before ++ (c, s) ∷ after)) in
      let own = ap (λ (o : Option PlaneLocation). times r (pages_of_location (tile_of c o s.levels.committed s.labels.committed))) here in
      omega (arith, whole, own, times-split (λ (x : Entry). pages_of_location (committed_tile x)) r before (c, s) after, one-self r)))
    where
      by : (o : Option PlaneLocation) (g : Staged) → tile_of c (staged_as o g) (staged_plane s.levels) (staged_plane s.labels) ≡ Some t
          → ((h : PlaneLocation) → o ≡ Some h → Contains (reached (committed_tiles entries)) h.record_page) → is_fresh_as g ≡ true
      by None AsCommitted had reaches = cc
      by (Some h) AsCommitted had reaches =
          let same : tile_at c (tile_planes h (staged_plane s.levels) (staged_plane s.labels)) ≡ t = cc in
          absurd (there.2.unreached (subst (Contains (reached (committed_tiles entries))) (ap (λ (u : TileLocation). u.heights.record_page) same) (reaches h refl)))
      by o Dropped had reaches = cc
      by o (Fresh l) had reaches = refl

  -- ---- its planes
  module _ (plane : Plane) where
    same_plane : option_and_then (plane_of plane) (staged_tile (c, s)) ≡ staged_plane (named_plane plane s)
    same_plane = plane_staged format plane (c, s) sound

    pub plane_found : (r : Option (Bor PlaneLocation)) → option_copied r ≡ staged_plane (named_plane plane s) → IfSome r (λ location. HasPlaneAt (staged_tiles entries) c plane location.now)
    plane_found None same = tt
    plane_found (Some location) same = by (staged_tile (c, s)) refl (same ∙ sym same_plane)
      where
        by : (o : Option TileLocation) → staged_tile (c, s) ≡ o → Some location.now ≡ option_and_then (plane_of plane) o → HasPlaneAt (staged_tiles entries) c plane location.now
        by None had lies_at = cc
        by (Some t) had lies_at = (
          t,
          (
            subst (λ (l : List Entry). Contains (staged_tiles l) t) (sym split) (tile_here before (c, s) after rising_there t had),
            (staged_corner before (c, s) after rising_there t had, sym lies_at),
          ),
        )

    -- The plane of the corner's tile is the plane of its entry.
    pub plane_at : (location : PlaneLocation) → HasPlaneAt (staged_tiles entries) c plane location → staged_plane (named_plane plane s) ≡ Some location
    plane_at location (t, (there, (at_corner, lies_at))) =
        let had : staged_tile (c, s) ≡ Some t = tile_is before (c, s) after rising_there t (subst (λ (l : List Entry). Contains (staged_tiles l) t) split there) at_corner in
        sym same_plane ∙ (ap (option_and_then (plane_of plane)) had ∙ lies_at)

    pub plane_none : (r : Option (Bor PlaneLocation)) → option_copied r ≡ staged_plane (named_plane plane s) → IfNone r (¬ HasPlane (staged_tiles entries) c plane)
    plane_none (Some location) same = tt
    plane_none None same = λ (location, at). (let no : None ≡ Some location = same ∙ plane_at location at in cc)

  -- ---- the entry with other planes
  module _ (new : TileEntry) (now : FreePages) (put : List Entry) (puts : put ≡ with_planes c new entries) where
    pub put_is : put ≡ before ++ (c, new) ∷ after
    put_is = puts ∙ (there c entries s found).puts new

    pub kept_as_put : IsKept format (before ++ (c, new) ∷ after) now → IsKept format put now
    kept_as_put k = subst (λ (l : List Entry). IsKept format l now) (sym put_is) k

    -- What is true of the page maps written with this entry between the others is true of the page maps.
    pub at_page_map : (P : PageMapValue → PageMapValue → Type 0) → P (page_map_of format (before ++ (c, s) ∷ after) free) (page_map_of format (before ++ (c, new) ∷ after) now) → P (page_map_of format entries free) (page_map_of format put now)
    at_page_map P here =
        subst (λ (l : List Entry). P (page_map_of format l free) (page_map_of format put now)) (sym split)
        (subst (λ (l : List Entry). P (page_map_of format (before ++ (c, s) ∷ after) free) (page_map_of format l now)) (sym put_is) here)

    -- Equal planes leave the page map unchanged.
    pub same_page_map : now.range ≡ free.range → new ≡ s → page_map_of format put now ≡ page_map_of format entries free
    same_page_map range same =
        ap (λ (l : List Entry). page_map_of format l now) (puts ∙ (ap (λ (x : TileEntry). with_planes c x entries) same ∙ set_value_same (is_at_corner c) entries s found))
        ∙ ap (λ (r : PageRange). let v : PageMapValue = record { sectors = r.sectors; format = format; committed = committed_tiles entries; staged = staged_tiles entries } in v) range

  -- ---- the entry with other heights
  module _ (h : PlaneEntry) (now : FreePages) (same : h.committed ≡ s.heights.committed) (balanced : AreBalanced (fresh_in s.heights) (fresh_in h) free now) where
    abbrev new : TileEntry
    new = record s { heights = h }

    all_balanced : AreBalanced (used_pages s) (used_pages new) free now
    all_balanced =
        balanced-append (used_in s.heights) (used_in h) (used_in s.levels ++ used_in s.labels) free now (used_balanced s.heights h free now same balanced) (used_in s.levels ++ used_in s.labels) now
        (balanced_same (used_in s.levels ++ used_in s.labels) now)

    module _ (location : PlaneLocation) (made : PlaneLocation → PlaneLocation) (had : staged_plane s.heights ≡ Some location) (has : staged_plane h ≡ Some (made location)) (whole : IsWholePlane format location → IsWholePlane format (made location)) where
      abbrev make : TileLocation → TileLocation
      make t = record t { heights = made t.heights }

      pub was_whole : IsWholePlane format location
      was_whole = let there : IfSome (Some location) (IsWholePlane format) = subst (λ (o : Option PlaneLocation). IfSome o (IsWholePlane format)) had sound.heights.staged in there

      still_together : AreTogether (Some (made location)) (staged_plane s.levels) (staged_plane s.labels)
      still_together =
          together_some location (made location) (staged_plane s.levels) (staged_plane s.labels) (subst (λ (o : Option PlaneLocation). AreTogether o (staged_plane s.levels) (staged_plane s.labels)) had sound.staged)

      pub sound_made : IsSound format (c, new)
      sound_made = record {
        corner = sound.corner;
        heights = record {
          committed = subst (λ (o : Option PlaneLocation). IfSome o (IsWholePlane format)) (sym same) sound.heights.committed;
          staged = subst (λ (o : Option PlaneLocation). IfSome o (IsWholePlane format)) (sym has) (whole was_whole);
        };
        levels = sound.levels;
        labels = sound.labels;
        committed = subst (λ (o : Option PlaneLocation). AreTogether o s.levels.committed s.labels.committed) (sym same) sound.committed;
        staged = subst (λ (o : Option PlaneLocation). AreTogether o (staged_plane s.levels) (staged_plane s.labels)) (sym has) still_together;
      }

      abbrev tile : TileLocation
      tile = tile_at c (tile_planes location (staged_plane s.levels) (staged_plane s.labels))

      had_tile : staged_tile (c, s) ≡ Some tile
      had_tile = ap (λ (o : Option PlaneLocation). tile_of c o (staged_plane s.levels) (staged_plane s.labels)) had

      has_tile : staged_tile (c, new) ≡ Some (make tile)
      has_tile = ap (λ (o : Option PlaneLocation). tile_of c o (staged_plane s.levels) (staged_plane s.labels)) has

      committed_still : committed_tile (c, new) ≡ committed_tile (c, s)
      committed_still = ap (λ (o : Option PlaneLocation). tile_of c o s.levels.committed s.labels.committed) same

      pub heights_kept : IsKept format (before ++ (c, new) ∷ after) now
      heights_kept =
          made_kept format before c s new after free now kept_there all_balanced committed_still tile make had_tile has_tile sound_made
          (omega (arith, kept_there.kept_room, no_more_kept before (c, s) (c, new) after (omega arith)))

      pub heights_page_map : page_map_of format (before ++ (c, new) ∷ after) now ≡ record (page_map_of format (before ++ (c, s) ∷ after) free) { staged = map (λ (u : TileLocation). if is_at c u then make u else u) (staged_tiles (before ++ (c, s) ∷ after)) }
      heights_page_map = made_page_map format before c s new after free now kept_there all_balanced committed_still tile make had_tile has_tile

      pub fresh_now : (p : ℕ) → 1 ≤ times p (fresh_in h) → IsFresh (page_map_of format (before ++ (c, new) ∷ after) now) p
      fresh_now p some = entry_fresh format before (c, new) after now heights_kept p (omega (arith, some, times-append p (fresh_in h) (fresh_kept s)))

    unchanged_kept : h ≡ s.heights → IsKept format (before ++ (c, new) ∷ after) now
    unchanged_kept alike = kept_unchanged format before c s new after free now kept_there all_balanced (ap (λ (x : PlaneEntry). let e : TileEntry = record s { heights = x } in e) alike)

    -- the heights with a page that may be written
    module _ (i page : ℕ) (staged : IsPageRestaged i page s.heights h) where
      abbrev rewrite : PlaneLocation → PlaneLocation
      rewrite l = moved_plane i page staged.index_page staged.record_page l

      whole_moved : IsWholePlane format (staged.location) → IsWholePlane format (rewrite staged.location)
      whole_moved whole = record {
        index_pages = length-set (staged.location).index_pages (i / 1024) staged.index_page ∙ whole.index_pages;
        pages = length-set (staged.location).pages i page ∙ whole.pages;
      }

      page_kept : IsKept format (before ++ (c, new) ∷ after) now
      page_kept = heights_kept staged.location rewrite staged.had staged.has whole_moved

      page_rewritten : IsRewritten c i page (page_map_of format (before ++ (c, s) ∷ after) free) (page_map_of format (before ++ (c, new) ∷ after) now)
      page_rewritten =
          let fresh = fresh_now staged.location rewrite staged.had staged.has whole_moved in
          let was = was_whole staged.location rewrite staged.had staged.has whole_moved in
          record {
            record_page = staged.record_page;
            index_page = staged.index_page;
            fresh_record = fresh staged.record_page staged.fresh_record;
            fresh_index = λ below. fresh staged.index_page (staged.fresh_index (omega (arith, below, was.index_pages)));
            fresh_page = fresh page staged.fresh_page;
            changed = heights_page_map staged.location rewrite staged.had staged.has whole_moved;
          }

    module _ (put : List Entry) (puts : put ≡ with_planes c new entries) (i : ℕ) (r : Result ℕ Refusal) (staged : IfOk r (λ page. IsPageRestaged i page s.heights h)) where
      pub kept_rewritten : OnErr r (h ≡ s.heights) → IsKept format put now
      kept_rewritten unchanged = kept_as_put new now put puts (done_or_not r (page_kept i) unchanged_kept staged unchanged)

      pub is_rewritten : IfOk r (λ page. IsRewritten c i page (page_map_of format entries free) (page_map_of format put now))
      is_rewritten =
          IfOk-weaker r (λ page. IsPageRestaged i page s.heights h) (λ page. IsRewritten c i page (page_map_of format entries free) (page_map_of format put now))
          (λ page done. at_page_map new now put puts (IsRewritten c i page) (page_rewritten i page done)) staged

    -- the heights with a record on a fresh page
    module _ (staged : IsRecordRestaged s.heights h) where
      abbrev move : PlaneLocation → PlaneLocation
      move l = record l { record_page = staged.record_page }

      has_moved : staged_plane h ≡ Some (move staged.location)
      has_moved = ap (staged_as h.committed) staged.has

      whole_still : IsWholePlane format (staged.location) → IsWholePlane format (move staged.location)
      whole_still whole = record { index_pages = whole.index_pages; pages = whole.pages }

      record_kept : IsKept format (before ++ (c, new) ∷ after) now
      record_kept = heights_kept staged.location move staged.had has_moved whole_still

      record_prepared : IsPrepared c (page_map_of format (before ++ (c, s) ∷ after) free) (page_map_of format (before ++ (c, new) ∷ after) now)
      record_prepared = record {
        record_page = staged.record_page;
        fresh_record = fresh_now staged.location move staged.had has_moved whole_still staged.record_page
            (let there = ap (λ (g : Staged). times staged.record_page (fresh_as h.committed g)) staged.has in omega (arith, there, one-self staged.record_page));
        changed = heights_page_map staged.location move staged.had has_moved whole_still;
      }

    module _ (put : List Entry) (puts : put ≡ with_planes c new entries) where
      module _ (r : Result (Unit {0}) Refusal) (staged : OnOk r (IsRecordRestaged s.heights h)) where
        pub kept_prepared : OnErr r (h ≡ s.heights) → IsKept format put now
        kept_prepared unchanged = kept_as_put new now put puts (done_or_not r (λ _. record_kept) unchanged_kept staged unchanged)

        pub is_prepared : OnOk r (IsPrepared c (page_map_of format entries free) (page_map_of format put now))
        is_prepared = on_ok_weaker r (λ done. at_page_map new now put puts (IsPrepared c) (record_prepared done)) staged

      -- Equal heights leave the page map unchanged.
      pub same_heights : {A : Type 0} (r : Result A Refusal) → OnErr r (h ≡ s.heights) → OnErr r (page_map_of format put now ≡ page_map_of format entries free)
      same_heights r unchanged = on_err_weaker r (λ alike. same_page_map new now put puts balanced.same_range (ap (λ (x : PlaneEntry). let e : TileEntry = record s { heights = x } in e) alike)) unchanged
