-- Stored tiles as the tiles of a mosaic, before and after staging.
use Rattle.stored_mosaic.proofs.Prelude.{All, All-cons, All-filter, All-head, All-nil, All-tail, AllZip, AreWhole, Bool, Corner, HoldsTile, IsTile, List, Mosaic, StoredTile, Tile, ℕ, ℤ, [], ap, ap₂, arith, cond, corner_of, corners_of_stored, false, is_before, length, map, not, pages_of, pages_of_bytes, plane_bytes, refl, same_corner, stale_tile, subst, sym, true, with_tile, without_tile, ◌*◌, ◌<◌, ◌∙◌, ◌∷◌, ◌≡◌, ◌≤◌}
use Rattle.hgt.specs.Bytes.{samples_in}
use Rattle.hgt.proofs.BytesLemmas.{samples_are_samples_in, AreHgtBytes-samples_in}
use Rattle.catalogue.specs.Tiles.{corners_of, added, without}
use Rattle.catalogue.specs.Tiles as mosaics
use Rattle.cow_tree.proofs.Writes.Dropping.{filter-map}
use Rattle.cow_tree.proofs.Writes.Planes.{plane_read_back, length-pages_of_bytes, whole_pages}
pub use Rattle.derived.proofs.KeptTiles.{as_tile}
use Rattle.derived.proofs.KeptTiles.{same_tiles, still_all}
pub use Rattle.stored_mosaic.specs.Editing.{IsFilled, AreTilesOf}
use Rattle.stored_mosaic.proofs.Pages.{bytes_of_plane, length_plane, long_enough}

-- ---- stored tiles that are the tiles of a mosaic

tile_held : (n : ℕ) (stored : StoredTile) (t : Tile) → IsTile n t → HoldsTile n stored t → t ≡ as_tile n stored
tile_held n stored t valid holds =
    ap₂ (λ (c : Corner) (samples : List ℤ). record { corner = c; samples = samples }) (sym holds.corner)
    (samples_are_samples_in n (plane_bytes n stored.heights) t.samples (bytes_of_plane n stored.heights holds.pages) valid.samples holds.heights)

pub tiles_held : (n : ℕ) (stored : List StoredTile) (tiles : List Tile) → All (IsTile n) tiles → AllZip (HoldsTile n) stored tiles → tiles ≡ map (as_tile n) stored
tiles_held n [] [] valid holds = refl
tiles_held n [] (t ∷ tiles) valid holds = absurd holds
tiles_held n (s ∷ stored) [] valid holds = absurd holds
tiles_held n (s ∷ stored) (t ∷ tiles) valid holds =
    ap₂ (λ (x : Tile) (xs : List Tile). x ∷ xs) (tile_held n s t (All-head (IsTile n) t tiles valid) holds.0)
    (tiles_held n stored tiles (All-tail (IsTile n) t tiles valid) holds.1)

pub tiles_filled : (n : ℕ) (stored : List StoredTile) (tiles : List Tile) → AllZip (HoldsTile n) stored tiles → All (IsFilled n) stored
tiles_filled n [] [] holds = All-nil (IsFilled n)
tiles_filled n [] (t ∷ tiles) holds = absurd holds
tiles_filled n (s ∷ stored) [] holds = absurd holds
tiles_filled n (s ∷ stored) (t ∷ tiles) holds =
    All-cons (IsFilled n) s stored (record {
      pages = holds.0.pages;
      enough = long_enough n s.heights holds.0.pages holds.0.heights.two_each;
    }) (tiles_filled n stored tiles holds.1)

-- Filled stored tiles are tiles of their mosaic.
filled_holds : (n : ℕ) (s : StoredTile) → IsFilled n s → HoldsTile n s (as_tile n s)
filled_holds n s filled = record {
  corner = refl;
  pages = filled.pages;
  heights = AreHgtBytes-samples_in n (plane_bytes n s.heights) (bytes_of_plane n s.heights filled.pages) (length_plane n s.heights filled.pages filled.enough);
}

pub filled_hold : (n : ℕ) (stored : List StoredTile) → All (IsFilled n) stored → AllZip (HoldsTile n) stored (map (as_tile n) stored)
filled_hold n [] filled = tt
filled_hold n (s ∷ stored) filled = (filled_holds n s (All-head (IsFilled n) s stored filled), filled_hold n stored (All-tail (IsFilled n) s stored filled))

pub whole_filled : (n : ℕ) (stored : List StoredTile) → All (IsFilled n) stored → AreWhole stored
whole_filled n stored filled k d within = (filled k d within).pages

-- The stored tiles have the mosaic's corners.
pub corners_held : (n : ℕ) (stored : List StoredTile) (m : Mosaic) → AreTilesOf n stored m → corners_of_stored stored ≡ corners_of m
corners_held n stored m are = same stored ∙ ap corners_of (sym are.mosaic)
  where
    same : (tiles : List StoredTile) → corners_of_stored tiles ≡ map corner_of (map (as_tile n) tiles)
    same [] = refl
    same (t ∷ rest) = ap (λ (cs : List Corner). t.corner ∷ cs) (same rest)

-- ---- changes of kept planes alone

pub keepers_held : (n : ℕ) (f : StoredTile → StoredTile) → ((t : StoredTile) → f t ≡ record t { kept = (f t).kept }) → (tiles : List StoredTile) (m : Mosaic) → AreTilesOf n tiles m → AreTilesOf n (map f tiles) m
keepers_held n f rest_stays tiles m are = record {
  mosaic = are.mosaic ∙ ap (λ (ts : List Tile). record { side = n; sinks = m.sinks; tiles = ts }) (sym (same_tiles f rest_stays n tiles));
  filled = still_all f rest_stays (IsFilled n) (λ t kept filled. record { pages = filled.pages; enough = filled.enough }) tiles are.filled;
}

-- ---- an added tile

added_tiles : (n : ℕ) (new : StoredTile) (tiles : List StoredTile) → mosaics.with_tile (as_tile n new) (map (as_tile n) tiles) ≡ map (as_tile n) (with_tile new tiles)
added_tiles n new [] = refl
added_tiles n new (t ∷ rest) =
    elim (is_before new.corner t.corner) as (λ (b : Bool). cond b (as_tile n new ∷ (as_tile n t ∷ map (as_tile n) rest)) (as_tile n t ∷ mosaics.with_tile (as_tile n new) (map (as_tile n) rest)) ≡ map (as_tile n) (cond b (new ∷ (t ∷ rest)) (t ∷ with_tile new rest))) [
      | true ↦ refl
      | false ↦ ap (λ (l : List Tile). as_tile n t ∷ l) (added_tiles n new rest)
    ]

all_with_tile : (P : StoredTile → Type 0) (new : StoredTile) (tiles : List StoredTile) → P new → All P tiles → All P (with_tile new tiles)
all_with_tile P new [] one all = All-cons P new [] one (All-nil P)
all_with_tile P new (t ∷ rest) one all = elim (is_before new.corner t.corner) as (λ (b : Bool). All P (cond b (new ∷ (t ∷ rest)) (t ∷ with_tile new rest))) [
  | true ↦ All-cons P new (t ∷ rest) one all
  | false ↦ All-cons P t (with_tile new rest) (All-head P t rest all) (all_with_tile P new rest one (All-tail P t rest all))
]

-- the tile of an HGT file, as pages
pub file_filled : (n : ℕ) (c : Corner) (bytes : List ℕ) → length bytes ≡ 2 * (n * n) → All (λ b. b < 256) bytes → IsFilled n (stale_tile c (pages_of_bytes (pages_of n) bytes))
file_filled n c bytes whole each = record {
  pages = whole_pages (pages_of n) bytes each;
  enough = subst (λ (m : ℕ). 2 * (n * n) ≤ 4096 * m) (sym (length-pages_of_bytes (pages_of n) bytes)) (omega arith);
}

pub imported : (n : ℕ) (tiles : List StoredTile) (m : Mosaic) (c : Corner) (bytes : List ℕ) → AreTilesOf n tiles m → length bytes ≡ 2 * (n * n) → All (λ b. b < 256) bytes
    → AreTilesOf n (with_tile (stale_tile c (pages_of_bytes (pages_of n) bytes)) tiles) (added (record { corner = c; samples = samples_in bytes }) m)
imported n tiles m c bytes are whole each =
    let new : StoredTile = stale_tile c (pages_of_bytes (pages_of n) bytes) in
    let tile : record { corner = c; samples = samples_in bytes } ≡ as_tile n new = ap (λ (l : List ℕ). record { corner = c; samples = samples_in l }) (sym (plane_read_back n bytes whole)) in
    record {
      mosaic = ap₂ (λ (t : Tile) (x : Mosaic). added t x) tile are.mosaic ∙ ap (λ (ts : List Tile). record { side = n; sinks = m.sinks; tiles = ts }) (added_tiles n new tiles);
      filled = all_with_tile (IsFilled n) new tiles (file_filled n c bytes whole each) are.filled;
    }

-- ---- a removed tile

pub removed : (n : ℕ) (tiles : List StoredTile) (m : Mosaic) (c : Corner) → AreTilesOf n tiles m → AreTilesOf n (without_tile c tiles) (without c m)
removed n tiles m c are = record {
  mosaic = ap (without c) are.mosaic ∙ ap (λ (ts : List Tile). record { side = n; sinks = m.sinks; tiles = ts }) (sym (filter-map (λ (t : Tile). not (same_corner t.corner c)) (as_tile n) tiles));
  filled = All-filter (λ t. not (same_corner t.corner c)) (IsFilled n) tiles are.filled;
}
