-- If nothing is staged, no page is fresh.
use Rattle.page_map.proofs.Prelude.{AllByRecursion, Entry, Format, FreePages, IsKept, IsSound, List, TileLocation, ℕ, [], ap, arith, committed_tiles, flat_map, flat_map-append, fresh_by, fresh_in, fresh_kept, reached, staged_plane, staged_tile, staged_tiles, sym, times, ◌++◌, ◌∙◌, ◌∷◌, ◌≡◌, ◌≤◌}
use Rattle.page_map.proofs.Times.{times-append, empty_of_times}
use Rattle.page_map.proofs.FreeTimes.{page_le}
use Rattle.page_map.proofs.PlaneChanges.{fresh_le, nil_parts}
use Rattle.page_map.proofs.EntryLists.{counted_tiles, fresh_parts, pages_of_location, reached_all, tile_times}

-- The fresh pages of entries are pages of their staged tiles.
all_fresh_le : (format : Format) (p : ℕ) (entries : List Entry) → AllByRecursion (IsSound format) entries → times p (flat_map fresh_by entries) ≤ times p (flat_map (λ s. pages_of_location (staged_tile s)) entries)
all_fresh_le format p [] sound = omega arith
all_fresh_le format p (s ∷ rest) sound =
    let fresh = times-append p (fresh_by s) (flat_map fresh_by rest) in
    let staged = times-append p (pages_of_location (staged_tile s)) (flat_map (λ s. pages_of_location (staged_tile s)) rest) in
    let tile = tile_times p s.0 (staged_plane s.1.heights) (staged_plane s.1.levels) (staged_plane s.1.labels) sound.0.staged in
    omega (arith, fresh, staged, tile, fresh_parts p s.1, fresh_le p s.1.heights, fresh_le p s.1.levels, fresh_le p s.1.labels, all_fresh_le format p rest sound.1)

pub none_fresh : (format : Format) (entries : List Entry) (free : FreePages) → IsKept format entries free → staged_tiles entries ≡ committed_tiles entries → flat_map fresh_by entries ≡ []
none_fresh format entries free is clean = empty_of_times (flat_map fresh_by entries) (λ p. (
    let staged = ap (times p) (reached_all staged_tile entries) in
    let same = ap (λ (l : List TileLocation). times p (reached l)) clean in
    omega (arith, staged, same, all_fresh_le format p entries is.sound, counted_tiles format entries free is p, page_le free.range p)))

pub none_kept_at : (before : List Entry) (s : Entry) (after : List Entry) → flat_map fresh_by (before ++ s ∷ after) ≡ [] → fresh_kept s.1 ≡ []
none_kept_at before s after none =
    let parts = nil_parts (flat_map fresh_by before) (fresh_by s ++ flat_map fresh_by after) (sym (flat_map-append fresh_by before (s ∷ after)) ∙ none) in
    let here = nil_parts (fresh_by s) (flat_map fresh_by after) parts.1 in
    (nil_parts (fresh_in s.1.heights) (fresh_kept s.1) here.0).1
