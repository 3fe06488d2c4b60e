-- A page map after one entry has changed.
use Rattle.page_map.proofs.Prelude.{AllAfter, AllByRecursion, AreBalanced, Corner, Entry, Format, FreePages, IfSome, IsFresh, IsKept, IsSound, List, None, Option, PageMapValue, PageRange, Rising, Some, TileEntry, TileLocation, ℕ, [], adjacent_from, after_not_same, ap, arith, before_not_same, committed_tile, committed_tiles, cond, cons_option, false, filter_map-append, flat_map, fresh_by, fresh_kept_by, if◌then◌else◌, is_at, length, length-append, length-map, map, not, page_map_of, plane_pages_of, refl, rising_from, same_corner, same_from, staged_tile, staged_tiles, subst, sym, times, true, used_pages, without_location, ◌*◌, ◌++◌, ◌∙◌, ◌∷◌, ◌≡◌, ◌≤◌}
use Rattle.page_map.proofs.EntryLists.{times-split, counted_change, corner_of, rising_change, AllBefore, rising_before, rising_after, staged_all, staged_own}
use Rattle.page_map.proofs.PageMapRules.{fresh_page}

-- ---- the invariant
all_change : (P : Entry → Type 0) (before : List Entry) (s new : Entry) (after : List Entry) → P new → AllByRecursion P (before ++ s ∷ after) → AllByRecursion P (before ++ new ∷ after)
all_change P [] s new after here all = (here, all.1)
all_change P (b ∷ before) s new after here all = (all.0, all_change P before s new after here all.1)

pub all_middle : (P : Entry → Type 0) (before : List Entry) (s : Entry) (after : List Entry) → AllByRecursion P (before ++ s ∷ after) → P s
all_middle P [] s after all = all.0
all_middle P (b ∷ before) s after all = all_middle P before s after all.1

-- If the entry has no more fresh pages of kept planes than before, the page map hasn't either.
pub no_more_kept : (before : List Entry) (s new : Entry) (after : List Entry) → length (fresh_kept_by new) ≤ length (fresh_kept_by s)
    → length (flat_map fresh_kept_by (before ++ new ∷ after)) ≤ length (flat_map fresh_kept_by (before ++ s ∷ after))
no_more_kept [] s new after fewer = omega (arith, fewer, length-append (fresh_kept_by new) (flat_map fresh_kept_by after), length-append (fresh_kept_by s) (flat_map fresh_kept_by after))
no_more_kept (b ∷ before) s new after fewer =
    omega (arith, no_more_kept before s new after fewer, length-append (fresh_kept_by b) (flat_map fresh_kept_by (before ++ new ∷ after)), length-append (fresh_kept_by b) (flat_map fresh_kept_by (before ++ s ∷ after)))

pub same_committed_tiles : (before : List Entry) (s new : Entry) (after : List Entry) → committed_tile new ≡ committed_tile s → committed_tiles (before ++ new ∷ after) ≡ committed_tiles (before ++ s ∷ after)
same_committed_tiles before s new after same =
    filter_map-append committed_tile before (new ∷ after)
    ∙ (ap (λ (o : Option TileLocation). committed_tiles before ++ cons_option o (committed_tiles after)) same
    ∙ sym (filter_map-append committed_tile before (s ∷ after)))

pub kept_change : (format : Format) (before : List Entry) (c : Corner) (s new : TileEntry) (after : List Entry) (free now : FreePages)
    → IsKept format (before ++ (c, s) ∷ after) free → IsSound format (c, new)
    → length (committed_tiles (before ++ (c, new) ∷ after)) ≤ format.capacity → length (staged_tiles (before ++ (c, new) ∷ after)) ≤ format.capacity → length (flat_map fresh_kept_by (before ++ (c, new) ∷ after)) ≤ 2 * plane_pages_of format
    → AreBalanced (used_pages s) (used_pages new) free now → IsKept format (before ++ (c, new) ∷ after) now
kept_change format before c s new after free now is sound committed_room room kept_room balanced = record {
  fits = rw (balanced.same_range) is.fits;
  window = rw (balanced.same_range) is.window;
  few = is.few;
  in_order = adjacent_from corner_of (before ++ (c, new) ∷ after) (rising_change c s new before after (rising_from corner_of (before ++ (c, s) ∷ after) is.in_order));
  sound = all_change (IsSound format) before (c, s) (c, new) after sound is.sound;
  committed_room = committed_room;
  staged_room = room;
  kept_room = kept_room;
  counted = counted_change before (c, s) after free is.counted (c, new) now balanced;
}

-- ---- the staged tiles
abbrev pub AllOther : Corner → List TileLocation → Type 0
AllOther c tiles = AllByRecursion (λ t. is_at c t ≡ false) tiles

pub other_before : (c : Corner) (entries : List Entry) → AllBefore c entries → AllOther c (staged_tiles entries)
other_before c = staged_all (λ d. same_corner d c ≡ false) (AllBefore c) (λ s rest h. (before_not_same s.0 c h.0, h.1))

pub other_after : (c : Corner) (entries : List Entry) → AllAfter corner_of c entries → AllOther c (staged_tiles entries)
other_after c = staged_all (λ d. same_corner d c ≡ false) (AllAfter corner_of c) (λ s rest h. (after_not_same c s.0 h.0, h.1))

module _ (c : Corner) where
  map_other : (f : TileLocation → TileLocation) → ((t : TileLocation) → is_at c t ≡ false → f t ≡ t) → (tiles : List TileLocation) → AllOther c tiles → map f tiles ≡ tiles
  map_other f same [] other = refl
  map_other f same (t ∷ rest) other = ap (λ u. u ∷ map f rest) (same t other.0) ∙ ap (λ l. t ∷ l) (map_other f same rest other.1)

  map_at : (f : TileLocation → TileLocation) → ((t : TileLocation) → is_at c t ≡ false → f t ≡ t) → (xs : List TileLocation) (t : TileLocation) (ys : List TileLocation) → AllOther c xs → AllOther c ys
      → map f (xs ++ t ∷ ys) ≡ xs ++ f t ∷ ys
  map_at f same [] t ys earlier later = ap (λ l. f t ∷ l) (map_other f same ys later)
  map_at f same (x ∷ xs) t ys earlier later = ap (λ u. u ∷ map f (xs ++ t ∷ ys)) (same x earlier.0) ∙ ap (λ l. x ∷ l) (map_at f same xs t ys earlier.1 later)

  without_other : (tiles : List TileLocation) → AllOther c tiles → without_location c tiles ≡ tiles
  without_other [] other = refl
  without_other (t ∷ rest) other = ap (λ b. cond (not b) (t ∷ without_location c rest) (without_location c rest)) other.0 ∙ ap (λ l. t ∷ l) (without_other rest other.1)

  without_at : (xs : List TileLocation) (t : TileLocation) (ys : List TileLocation) → AllOther c xs → is_at c t ≡ true → AllOther c ys → without_location c (xs ++ t ∷ ys) ≡ xs ++ ys
  without_at [] t ys earlier here later = ap (λ b. cond (not b) (t ∷ without_location c ys) (without_location c ys)) here ∙ without_other ys later
  without_at (x ∷ xs) t ys earlier here later =
      ap (λ b. cond (not b) (x ∷ without_location c (xs ++ t ∷ ys)) (without_location c (xs ++ t ∷ ys))) earlier.0 ∙ ap (λ l. x ∷ l) (without_at xs t ys earlier.1 here later)

-- the entry in the middle, with its neighbours
module _ (before : List Entry) (s : Entry) (after : List Entry) (rising : Rising corner_of (before ++ s ∷ after)) (t : TileLocation) (had : staged_tile s ≡ Some t) where
  abbrev location : Corner
  location = s.0

  pub staged_corner : t.corner ≡ s.0
  staged_corner = let own : IfSome (Some t) (λ (u : TileLocation). u.corner ≡ s.0) = subst (λ (o : Option TileLocation). IfSome o (λ u. u.corner ≡ s.0)) had (staged_own s) in own

  pub staged_at : is_at location t ≡ true
  staged_at = same_from t.corner s.0 staged_corner

  pub staged_split : staged_tiles (before ++ s ∷ after) ≡ staged_tiles before ++ t ∷ staged_tiles after
  staged_split = filter_map-append staged_tile before (s ∷ after) ∙ ap (λ (o : Option TileLocation). staged_tiles before ++ cons_option o (staged_tiles after)) had

  earlier_other : AllOther location (staged_tiles before)
  earlier_other = other_before location before (rising_before corner_of before s after rising)

  later_other : AllOther location (staged_tiles after)
  later_other = other_after location after (rising_after before s after rising)

  pub staged_mapped : (f : TileLocation → TileLocation) → ((u : TileLocation) → is_at location u ≡ false → f u ≡ u) → (new : Entry) → staged_tile new ≡ Some (f t) → staged_tiles (before ++ new ∷ after) ≡ map f (staged_tiles (before ++ s ∷ after))
  staged_mapped f same new has =
      filter_map-append staged_tile before (new ∷ after)
      ∙ (ap (λ (o : Option TileLocation). staged_tiles before ++ cons_option o (staged_tiles after)) has
      ∙ (sym (map_at location f same (staged_tiles before) t (staged_tiles after) earlier_other later_other)
      ∙ ap (map f) (sym staged_split)))

  pub staged_without : (new : Entry) → staged_tile new ≡ None → staged_tiles (before ++ new ∷ after) ≡ without_location location (staged_tiles (before ++ s ∷ after))
  staged_without new has =
      filter_map-append staged_tile before (new ∷ after)
      ∙ (ap (λ (o : Option TileLocation). staged_tiles before ++ cons_option o (staged_tiles after)) has
      ∙ (sym (without_at location (staged_tiles before) t (staged_tiles after) earlier_other staged_at later_other)
      ∙ ap (without_location location) (sym staged_split)))

-- A fresh page of an entry is a fresh page of the page map.
pub entry_fresh : (format : Format) (before : List Entry) (s : Entry) (after : List Entry) (free : FreePages) → IsKept format (before ++ s ∷ after) free → (p : ℕ) → 1 ≤ times p (fresh_by s) → IsFresh (page_map_of format (before ++ s ∷ after) free) p
entry_fresh format before s after free is p some = fresh_page format (before ++ s ∷ after) free is p (omega (arith, some, times-split fresh_by p before s after))

-- the page map with other staged tiles
pub page_map_changed : (format : Format) (before : List Entry) (s new : Entry) (after : List Entry) (free now : FreePages) → now.range ≡ free.range → committed_tile new ≡ committed_tile s
    → (tiles : List TileLocation) → staged_tiles (before ++ new ∷ after) ≡ tiles
    → page_map_of format (before ++ new ∷ after) now ≡ record (page_map_of format (before ++ s ∷ after) free) { staged = tiles }
page_map_changed format before s new after free now total same tiles staged =
    let page_map : ℕ → List TileLocation → List TileLocation → PageMapValue = λ n c t. record { sectors = n; format = format; committed = c; staged = t } in
    ap (λ (n : PageRange). page_map n.sectors (committed_tiles (before ++ new ∷ after)) (staged_tiles (before ++ new ∷ after))) total
    ∙ (ap (λ (l : List TileLocation). page_map free.range.sectors l (staged_tiles (before ++ new ∷ after))) (same_committed_tiles before s new after same)
    ∙ ap (λ (l : List TileLocation). page_map free.range.sectors (committed_tiles (before ++ s ∷ after)) l) staged)

-- ---- an unchanged entry, with other free pages
pub kept_unchanged : (format : Format) (before : List Entry) (c : Corner) (s new : TileEntry) (after : List Entry) (free now : FreePages) → IsKept format (before ++ (c, s) ∷ after) free → AreBalanced (used_pages s) (used_pages new) free now → new ≡ s
    → IsKept format (before ++ (c, new) ∷ after) now
kept_unchanged format before c s new after free now is balanced same =
    subst (λ (x : TileEntry). IsKept format (before ++ (c, x) ∷ after) now) (sym same)
    (kept_change format before c s s after free now is (all_middle (IsSound format) before (c, s) after is.sound) is.committed_room is.staged_room is.kept_room (subst (λ (x : TileEntry). AreBalanced (used_pages s) (used_pages x) free now) same balanced))

-- ---- an entry with another staged tile
module _ (format : Format) (before : List Entry) (c : Corner) (s new : TileEntry) (after : List Entry) (free now : FreePages) (is : IsKept format (before ++ (c, s) ∷ after) free) (balanced : AreBalanced (used_pages s) (used_pages new) free now)
    (same_committed : committed_tile (c, new) ≡ committed_tile (c, s)) (tile : TileLocation) (made : TileLocation → TileLocation) (had : staged_tile (c, s) ≡ Some tile) (has : staged_tile (c, new) ≡ Some (made tile)) where
  abbrev made_in : TileLocation → TileLocation
  made_in u = if is_at c u then made u else u

  rising : Rising corner_of (before ++ (c, s) ∷ after)
  rising = rising_from corner_of (before ++ (c, s) ∷ after) is.in_order

  made_other : (u : TileLocation) → is_at c u ≡ false → made_in u ≡ u
  made_other u other = ap (λ b. if b then made u else u) other

  made_here : made tile ≡ made_in tile
  made_here = sym (ap (λ b. if b then made tile else tile) (staged_at before (c, s) after rising tile had))

  made_tiles : staged_tiles (before ++ (c, new) ∷ after) ≡ map made_in (staged_tiles (before ++ (c, s) ∷ after))
  made_tiles = staged_mapped before (c, s) after rising tile had made_in made_other (c, new) (has ∙ ap Some made_here)

  pub made_kept : IsSound format (c, new) → length (flat_map fresh_kept_by (before ++ (c, new) ∷ after)) ≤ 2 * plane_pages_of format → IsKept format (before ++ (c, new) ∷ after) now
  made_kept sound kept_room =
      kept_change format before c s new after free now is sound (rw (same_committed_tiles before (c, s) (c, new) after same_committed) is.committed_room)
      (rw made_tiles (rw (length-map (staged_tiles (before ++ (c, s) ∷ after)) made_in) is.staged_room)) kept_room balanced

  pub made_page_map : page_map_of format (before ++ (c, new) ∷ after) now ≡ record (page_map_of format (before ++ (c, s) ∷ after) free) { staged = map made_in (staged_tiles (before ++ (c, s) ∷ after)) }
  made_page_map = page_map_changed format before (c, s) (c, new) after free now balanced.same_range same_committed _ made_tiles
