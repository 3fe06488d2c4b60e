-- Lists of entries in which one entry changes.
use Rattle.std.proofs.Common.{◌≡◌, ℕ, ◌+◌, IsTrue, List, [], ◌∷◌, ◌++◌, map, refl, sym, ap, subst, ◌∙◌, arith}
use Rattle.page_map.proofs.Prelude.{AllAfter, AllByRecursion, AreBalanced, AreCounted, AreInUse, AreTogether, AreWholeKept, Corner, Entry, Format, FreePages, IfSome, IsBefore, IsKept, IsSound, IsWholePlane, IsWholeTile, None, Option, PlaneLocation, Rising, Some, TileEntry, TileLocation, committed_tile, committed_tiles, cons_option, filter_map, flat_map, flat_map-append, free_times, fresh_by, fresh_in, fresh_kept, fresh_pages, is_before, kept_of, page_times, pages_at, pages_of_kept, pages_of_plane, pages_of_tile, reached, staged_plane, staged_tile, staged_tiles, tile_of, times, used_by, used_in, used_pages}
use Rattle.page_map.proofs.Times.{times-append}
use Rattle.page_map.proofs.PlaneChanges.{used_split}

-- ---- a tile from its planes
abbrev pub pages_of_location : Option TileLocation → List ℕ
pages_of_location None = []
pages_of_location (Some t) = pages_of_tile t

pub tile_own : (Q : Corner → Type 0) (c : Corner) (h l m : Option PlaneLocation) → Q c → IfSome (tile_of c h l m) (λ t. Q t.corner)
tile_own Q c None l m is = tt
tile_own Q c (Some h) l m is = is

pub tile_whole : (format : Format) (c : Corner) (h l m : Option PlaneLocation) → IfSome h (IsWholePlane format) → IfSome l (IsWholePlane format) → IfSome m (IsWholePlane format) → IfSome (tile_of c h l m) (IsWholeTile format)
tile_whole format c None l m heights levels labels = tt
tile_whole format c (Some h) l m heights levels labels = record { heights = heights; kept = by l m levels labels }
  where
    by : (l m : Option PlaneLocation) → IfSome l (IsWholePlane format) → IfSome m (IsWholePlane format) → IfSome (kept_of l m) (AreWholeKept format)
    by None m levels labels = tt
    by (Some l) None levels labels = tt
    by (Some l) (Some m) levels labels = record { levels = levels; labels = labels }

pub tile_times : (p : ℕ) (c : Corner) (h l m : Option PlaneLocation) → AreTogether h l m → times p (pages_of_location (tile_of c h l m)) ≡ times p (pages_at h) + (times p (pages_at l) + times p (pages_at m))
tile_times p c None None None together = refl
tile_times p c None None (Some m) together = absurd together
tile_times p c None (Some l) None together = absurd together
tile_times p c None (Some l) (Some m) together = absurd together
tile_times p c (Some h) None None together = omega (arith, times-append p (pages_of_plane h) [])
tile_times p c (Some h) None (Some m) together = absurd together
tile_times p c (Some h) (Some l) None together = absurd together
tile_times p c (Some h) (Some l) (Some m) together =
    omega (arith, times-append p (pages_of_plane h) (pages_of_kept (kept_of (Some l) (Some m))), times-append p (pages_of_plane l) (pages_of_plane m))

pub used_parts : (p : ℕ) (s : TileEntry) → times p (used_pages s) ≡ times p (used_in s.heights) + (times p (used_in s.levels) + times p (used_in s.labels))
used_parts p s = omega (arith, times-append p (used_in s.heights) (used_in s.levels ++ used_in s.labels), times-append p (used_in s.levels) (used_in s.labels))

pub fresh_parts : (p : ℕ) (s : TileEntry) → times p (fresh_pages s) ≡ times p (fresh_in s.heights) + (times p (fresh_in s.levels) + times p (fresh_in s.labels))
fresh_parts p s = omega (arith, times-append p (fresh_in s.heights) (fresh_kept s), times-append p (fresh_in s.levels) (fresh_in s.labels))

-- The pages that an entry uses are those of its committed tile and the fresh ones.
pub used_tile : (format : Format) (p : ℕ) (e : Entry) → IsSound format e → times p (used_by e) ≡ times p (pages_of_location (committed_tile e)) + times p (fresh_by e)
used_tile format p e sound =
    let s = e.1 in
    omega (arith, used_parts p s, fresh_parts p s, used_split p s.heights, used_split p s.levels, used_split p s.labels, tile_times p e.0 s.heights.committed s.levels.committed s.labels.committed sound.committed)

-- ---- pages
-- The pages of tiles are the pages of the entries with these tiles.
pub reached_all : (tile_of : Entry → Option TileLocation) (entries : List Entry) → reached (filter_map tile_of entries) ≡ flat_map (λ s. pages_of_location (tile_of s)) entries
reached_all tile_of [] = refl
reached_all tile_of (s ∷ rest) = by (tile_of s) (reached_all tile_of rest)
  where
    by : (o : Option TileLocation) → reached (filter_map tile_of rest) ≡ flat_map (λ s. pages_of_location (tile_of s)) rest
        → reached (cons_option o (filter_map tile_of rest)) ≡ pages_of_location o ++ flat_map (λ s. pages_of_location (tile_of s)) rest
    by None h = h
    by (Some t) h = ap (λ l. pages_of_tile t ++ l) h

pub used_tiles : (format : Format) (p : ℕ) (entries : List Entry) → AllByRecursion (IsSound format) entries → times p (flat_map used_by entries) ≡ times p (reached (committed_tiles entries)) + times p (flat_map fresh_by entries)
used_tiles format p [] sound = refl
used_tiles format p (s ∷ rest) sound =
    let tiles = ap (times p) (reached_all committed_tile (s ∷ rest)) in
    let later = ap (times p) (reached_all committed_tile rest) in
    let used = times-append p (used_by s) (flat_map used_by rest) in
    let committed = times-append p (pages_of_location (committed_tile s)) (flat_map (λ s. pages_of_location (committed_tile s)) rest) in
    let fresh = times-append p (fresh_by s) (flat_map fresh_by rest) in
    omega (arith, tiles, later, used, committed, fresh, used_tile format p s sound.0, used_tiles format p rest sound.1)

pub counted_tiles : (format : Format) (entries : List Entry) (free : FreePages) → IsKept format entries free → (p : ℕ) → times p (reached (committed_tiles entries)) + times p (flat_map fresh_by entries) + free_times free p ≡ page_times free.range p
counted_tiles format entries free is p = omega (arith, is.counted p, used_tiles format p entries is.sound)

-- how often the pages of some entries contain a page: before, at and after one in the middle
module _ (pages : Entry → List ℕ) (p : ℕ) (before : List Entry) (s : Entry) (after : List Entry) where
  pub times-split : times p (flat_map pages (before ++ s ∷ after)) ≡ times p (flat_map pages before) + (times p (pages s) + times p (flat_map pages after))
  times-split =
      ap (times p) (flat_map-append pages before (s ∷ after))
      ∙ (times-append p (flat_map pages before) (pages s ++ flat_map pages after)
      ∙ ap (λ n. times p (flat_map pages before) + n) (times-append p (pages s) (flat_map pages after)))

module _ (before : List Entry) (s : Entry) (after : List Entry) (free : FreePages) (counted : AreCounted (before ++ s ∷ after) free) where
  pub entry_in_use : AreInUse (used_by s) free
  entry_in_use p = omega (arith, times-split used_by p before s after, counted p)

  pub counted_change : (new : Entry) (now : FreePages) → AreBalanced (used_by s) (used_by new) free now → AreCounted (before ++ new ∷ after) now
  counted_change new now balanced p =
      let total = ap (λ n. page_times n p) balanced.same_range in
      omega (arith, total, balanced.each p, times-split used_by p before s after, times-split used_by p before new after, counted p)

-- ---- order
abbrev pub corner_of : Entry → Corner
corner_of e = e.0

module _ (c : Corner) (s new : TileEntry) where
  after_change : (d : Corner) (before after : List Entry) → AllAfter corner_of d (before ++ (c, s) ∷ after) → AllAfter corner_of d (before ++ (c, new) ∷ after)
  after_change d [] after h = h
  after_change d (b ∷ before) after h = (h.0, after_change d before after h.1)

  pub rising_change : (before after : List Entry) → Rising corner_of (before ++ (c, s) ∷ after) → Rising corner_of (before ++ (c, new) ∷ after)
  rising_change [] after h = h
  rising_change (b ∷ before) after h = (after_change b.0 before after h.0, rising_change before after h.1)

-- A map that keeps the corners keeps the order.
module _ {X Y : Type 0} (f : X → Y) (key : Y → Corner) where
  after_map : (c : Corner) (xs : List X) → AllAfter (λ x. key (f x)) c xs → AllAfter key c (map f xs)
  after_map c [] after = tt
  after_map c (x ∷ rest) after = (after.0, after_map c rest after.1)

  pub rising_map : (xs : List X) → Rising (λ x. key (f x)) xs → Rising key (map f xs)
  rising_map [] rising = tt
  rising_map (x ∷ rest) rising = (after_map (key (f x)) rest rising.0, rising_map rest rising.1)

-- All entries are before the corner.
abbrev pub AllBefore : Corner → List Entry → Type 0
AllBefore c entries = AllByRecursion (λ e. IsBefore e.0 c) entries

module _ {X : Type 0} (key : X → Corner) where
  pub rising_before : (before : List X) (s : X) (after : List X) → Rising key (before ++ s ∷ after) → AllByRecursion (λ x. IsBefore (key x) (key s)) before
  rising_before [] s after h = tt
  rising_before (b ∷ before) s after h = (by before h.0, rising_before before s after h.1)
    where
      by : (rest : List X) → AllAfter key (key b) (rest ++ s ∷ after) → IsBefore (key b) (key s)
      by [] g = g.0
      by (x ∷ rest) g = by rest g.1

pub rising_after : (before : List Entry) (s : Entry) (after : List Entry) → Rising corner_of (before ++ s ∷ after) → AllAfter corner_of s.0 after
rising_after [] s after h = h.0
rising_after (b ∷ before) s after h = rising_after before s after h.1

pub rising_insert : (before : List Entry) (s : Entry) (after : List Entry) → AllBefore s.0 before → AllAfter corner_of s.0 after → Rising corner_of (before ++ after) → Rising corner_of (before ++ s ∷ after)
rising_insert [] s after earlier later h = (later, h)
rising_insert (b ∷ before) s after earlier later h = (by before h.0, rising_insert before s after earlier.1 later h.1)
  where
    by : (rest : List Entry) → AllAfter corner_of b.0 (rest ++ after) → AllAfter corner_of b.0 (rest ++ s ∷ after)
    by [] g = (earlier.0, g)
    by (x ∷ rest) g = (g.0, by rest g.1)

-- The tiles of entries are in the order of the entries, since each has its entry's corner.
module _ (tile_of : Entry → Option TileLocation) (own : (s : Entry) → IfSome (tile_of s) (λ t. t.corner ≡ s.0)) where
  abbrev location_of : TileLocation → Corner
  location_of t = t.corner

  after_tiles : (c : Corner) (entries : List Entry) → AllAfter corner_of c entries → AllAfter location_of c (filter_map tile_of entries)
  after_tiles c [] h = tt
  after_tiles c (s ∷ rest) h = by (tile_of s) (own s) (after_tiles c rest h.1)
    where
      by : (o : Option TileLocation) → IfSome o (λ t. t.corner ≡ s.0) → AllAfter location_of c (filter_map tile_of rest) → AllAfter location_of c (cons_option o (filter_map tile_of rest))
      by None is later = later
      by (Some t) is later = (subst (λ (d : Corner). IsTrue (is_before c d)) (sym is) h.0, later)

  pub rising_tiles : (entries : List Entry) → Rising corner_of entries → Rising location_of (filter_map tile_of entries)
  rising_tiles [] h = tt
  rising_tiles (s ∷ rest) h = by (tile_of s) (own s) (after_tiles s.0 rest h.0) (rising_tiles rest h.1)
    where
      by : (o : Option TileLocation) → IfSome o (λ t. t.corner ≡ s.0) → AllAfter location_of s.0 (filter_map tile_of rest) → Rising location_of (filter_map tile_of rest)
          → Rising location_of (cons_option o (filter_map tile_of rest))
      by None is later rising = rising
      by (Some t) is later rising = (subst (λ (d : Corner). AllAfter location_of d (filter_map tile_of rest)) (sym is) later, rising)

pub committed_own : (s : Entry) → IfSome (committed_tile s) (λ t. t.corner ≡ s.0)
committed_own s = tile_own (λ d. d ≡ s.0) s.0 s.1.heights.committed s.1.levels.committed s.1.labels.committed refl

pub staged_own : (s : Entry) → IfSome (staged_tile s) (λ t. t.corner ≡ s.0)
staged_own s = tile_own (λ d. d ≡ s.0) s.0 (staged_plane s.1.heights) (staged_plane s.1.levels) (staged_plane s.1.labels) refl

-- A property of each entry's corner holds for each staged tile's corner.
pub staged_all : (P : Corner → Type 0) (R : List Entry → Type 0) → ((s : Entry) (rest : List Entry) → R (s ∷ rest) → P s.0 × R rest) → (entries : List Entry) → R entries
    → AllByRecursion (λ t. P t.corner) (staged_tiles entries)
staged_all P R each [] all = tt
staged_all P R each (s ∷ rest) all =
    by (staged_tile s) (tile_own P s.0 (staged_plane s.1.heights) (staged_plane s.1.levels) (staged_plane s.1.labels) (each s rest all).0) (staged_all P R each rest (each s rest all).1)
  where
    by : (o : Option TileLocation) → IfSome o (λ t. P t.corner) → AllByRecursion (λ t. P t.corner) (staged_tiles rest) → AllByRecursion (λ t. P t.corner) (cons_option o (staged_tiles rest))
    by None here later = later
    by (Some t) here later = (here, later)
