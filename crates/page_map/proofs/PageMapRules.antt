-- The rules of every page map.
use Rattle.page_map.proofs.Prelude.{All, All-cons, All-nil, AllByRecursion, Entry, Format, FreePages, IfSome, IsFresh, IsKept, IsPageMap, IsSound, IsTrue, IsWholeTile, KeepsPageRule, List, None, Option, PageRange, Rising, Some, TileLocation, ℕ, [], adjacent_from, ap, arith, committed_tile, committed_tiles, cons_option, filter_map, flat_map, fresh_by, is_corner, page_map_of, page_times, reached, rising_from, staged_plane, staged_tile, staged_tiles, times, used_by, ◌<◌, ◌∷◌, ◌≤◌}
use Rattle.page_map.proofs.Times.{times-append, times_of_member, all_numbers}
use Rattle.page_map.proofs.FreeTimes.{page_at, page_le}
use Rattle.page_map.proofs.PlaneChanges.{staged_le}
use Rattle.page_map.proofs.EntryLists.{committed_own, corner_of, counted_tiles, pages_of_location, reached_all, rising_tiles, staged_own, tile_own, tile_times, tile_whole, used_parts}

-- ---- the page rule
pub page_rule : (range : PageRange) (tiles : List TileLocation) → ((p : ℕ) → times p (reached tiles) ≤ page_times range p) → KeepsPageRule range.sectors tiles
page_rule range tiles few = record {
  low = all_numbers (λ p. 4 ≤ p) (reached tiles) (λ p some. (page_at range p (omega (arith, few p))).0);
  high = all_numbers (λ p. p < range.sectors) (reached tiles) (λ p some. (page_at range p (omega (arith, few p))).1);
  once = λ p. omega (arith, few p, page_le range p);
}

-- Staged tiles reach at most the pages that their entries use.
all_staged_le : (format : Format) (p : ℕ) (entries : List Entry) → AllByRecursion (IsSound format) entries → times p (flat_map (λ s. pages_of_location (staged_tile s)) entries) ≤ times p (flat_map used_by entries)
all_staged_le format p [] sound = omega arith
all_staged_le format p (s ∷ rest) sound =
    let staged = times-append p (pages_of_location (staged_tile s)) (flat_map (λ s. pages_of_location (staged_tile s)) rest) in
    let used = times-append p (used_by s) (flat_map used_by rest) in
    let tile = tile_times p s.0 (staged_plane s.1.heights) (staged_plane s.1.levels) (staged_plane s.1.labels) sound.0.staged in
    omega (arith, staged, used, tile, used_parts p s.1, staged_le p s.1.heights, staged_le p s.1.levels, staged_le p s.1.labels, all_staged_le format p rest sound.1)

module _ (format : Format) (entries : List Entry) (free : FreePages) (is : IsKept format entries free) where
  committed_few : (p : ℕ) → times p (reached (committed_tiles entries)) ≤ page_times free.range p
  committed_few p = omega (arith, counted_tiles format entries free is p)

  staged_few : (p : ℕ) → times p (reached (staged_tiles entries)) ≤ page_times free.range p
  staged_few p = let staged = ap (times p) (reached_all staged_tile entries) in omega (arith, is.counted p, staged, all_staged_le format p entries is.sound)

  pub fresh_page : (p : ℕ) → 1 ≤ times p (flat_map fresh_by entries) → IsFresh (page_map_of format entries free) p
  fresh_page p some =
      let all = counted_tiles format entries free is p in
      let few = page_le free.range p in
      let page = page_at free.range p (omega arith) in
      record {
        low = page.0;
        high = page.1;
        unreached = λ member. (let there = times_of_member (reached (committed_tiles entries)) p member in absurd (omega arith));
      }

-- ---- each tile
pub all_tiles : (P : TileLocation → Type 0) (Q : Entry → Type 0) (tile_of : Entry → Option TileLocation) → ((s : Entry) → Q s → IfSome (tile_of s) P) → (entries : List Entry) → AllByRecursion Q entries → All P (filter_map tile_of entries)
all_tiles P Q tile_of each [] all = All-nil P
all_tiles P Q tile_of each (s ∷ rest) all = by (tile_of s) (each s all.0) (all_tiles P Q tile_of each rest all.1)
  where
    by : (o : Option TileLocation) → IfSome o P → All P (filter_map tile_of rest) → All P (cons_option o (filter_map tile_of rest))
    by None here later = later
    by (Some t) here later = All-cons P t (filter_map tile_of rest) here later

-- ---- a page_map
pub mapped : (format : Format) (entries : List Entry) (free : FreePages) → IsKept format entries free → IsPageMap (page_map_of format entries free)
mapped format entries free is =
    let rising : Rising corner_of entries = rising_from corner_of entries is.in_order in
    record {
      size = omega (arith, is.window.enough, is.window.within);
      committed = record {
        corners = all_tiles (λ t. IsTrue (is_corner t.corner)) (IsSound format) committed_tile (λ s sound. tile_own (λ d. IsTrue (is_corner d)) s.0 s.1.heights.committed s.1.levels.committed s.1.labels.committed sound.corner) entries is.sound;
        in_order = adjacent_from (λ (t : TileLocation). t.corner) (committed_tiles entries) (rising_tiles committed_tile committed_own entries rising);
        room = is.committed_room;
        whole = all_tiles (IsWholeTile format) (IsSound format) committed_tile (λ s sound. tile_whole format s.0 s.1.heights.committed s.1.levels.committed s.1.labels.committed sound.heights.committed sound.levels.committed sound.labels.committed) entries is.sound;
        page_rule = page_rule free.range (committed_tiles entries) (committed_few format entries free is);
      };
      staged = record {
        corners = all_tiles (λ t. IsTrue (is_corner t.corner)) (IsSound format) staged_tile (λ s sound. tile_own (λ d. IsTrue (is_corner d)) s.0 (staged_plane s.1.heights) (staged_plane s.1.levels) (staged_plane s.1.labels) sound.corner) entries is.sound;
        in_order = adjacent_from (λ (t : TileLocation). t.corner) (staged_tiles entries) (rising_tiles staged_tile staged_own entries rising);
        room = is.staged_room;
        whole = all_tiles (IsWholeTile format) (IsSound format) staged_tile (λ s sound. tile_whole format s.0 (staged_plane s.1.heights) (staged_plane s.1.levels) (staged_plane s.1.labels) sound.heights.staged sound.levels.staged sound.labels.staged) entries is.sound;
        page_rule = page_rule free.range (staged_tiles entries) (staged_few format entries free is);
      };
    }
