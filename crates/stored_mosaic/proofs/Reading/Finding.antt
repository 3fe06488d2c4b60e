-- The stored tile of a corner: its samples and its bytes are those of the mosaic's tile.
use Rattle.stored_mosaic.proofs.Prelude.{All-contains, AllAfter, Bool, Contains, Corner, IsTrue, List, Point, Rising, Some, StoredTile, ℕ, ℤ, [], ap, arith, before_not_same, cond, corner_of, hgt_bytes, is_before, map, mosaic_of_tiles, plane_bytes, rising_tiles, same_from, samples_of_plane, subst, suc, sym, zero, ◌∙◌, ◌∷◌, ◌≡◌}
use Rattle.lattice.specs.Mosaic.{Mosaic, IsMosaic, samples_among, samples_of}
use Rattle.hgt.proofs.BytesLemmas.{hgt_bytes-samples_in}
use Rattle.stored_mosaic.proofs.Pages.{bytes_of_plane, length_plane}
use Rattle.stored_mosaic.proofs.Reading.HeldTiles.{IsFilled, AreTilesOf, as_tile}

abbrev pub stored_corner : StoredTile → Corner
stored_corner t = t.corner

pub after_contained : (c : Corner) (tiles : List StoredTile) (t : StoredTile) → AllAfter stored_corner c tiles → Contains tiles t → IsTrue (is_before c t.corner)
after_contained c [] t after (k, below, here) = absurd (omega (arith, below))
after_contained c (u ∷ rest) t after (zero, below, here) = subst (λ (x : StoredTile). IsTrue (is_before c x.corner)) here after.0
after_contained c (u ∷ rest) t after (suc k, below, here) = after_contained c rest t after.1 (k, omega (arith, below), here)

-- The stored tiles are in the order of the mosaic's.
after_stored : (n : ℕ) (c : Corner) (tiles : List StoredTile) → AllAfter corner_of c (map (as_tile n) tiles) → AllAfter stored_corner c tiles
after_stored n c [] after = tt
after_stored n c (t ∷ rest) after = (after.0, after_stored n c rest after.1)

rising_back : (n : ℕ) (tiles : List StoredTile) → Rising corner_of (map (as_tile n) tiles) → Rising stored_corner tiles
rising_back n [] rising = tt
rising_back n (t ∷ rest) rising = (after_stored n t.corner rest rising.0, rising_back n rest rising.1)

pub rising_stored : (n : ℕ) (tiles : List StoredTile) (m : Mosaic) → AreTilesOf n tiles m → IsMosaic m → Rising stored_corner tiles
rising_stored n tiles m are valid = rising_back n tiles (subst (λ (x : Mosaic). Rising corner_of x.tiles) are.mosaic (rising_tiles m valid))

-- the stored tiles of a mosaic made from them
pub rising_staged : (n : ℕ) (sinks : List Point) (tiles : List StoredTile) → IsMosaic (mosaic_of_tiles n sinks tiles) → Rising stored_corner tiles
rising_staged n sinks tiles valid = rising_back n tiles (rising_tiles (mosaic_of_tiles n sinks tiles) valid)

samples_found : (n : ℕ) (c : Corner) (tiles : List StoredTile) (t : StoredTile) → Rising stored_corner tiles → Contains tiles t → t.corner ≡ c
    → samples_among (map (as_tile n) tiles) c ≡ Some (samples_of_plane n t.heights)
samples_found n c [] t rising (k, below, here) corner = absurd (omega (arith, below))
samples_found n c (u ∷ rest) t rising (zero, below, here) corner =
    ap (λ (b : Bool). cond b (Some (samples_of_plane n u.heights)) (samples_among (map (as_tile n) rest) c)) (same_from u.corner c (ap stored_corner here ∙ corner))
    ∙ ap (λ (x : StoredTile). Some (samples_of_plane n x.heights)) here
samples_found n c (u ∷ rest) t rising (suc k, below, here) corner =
    let there : Contains rest t = (k, omega (arith, below), here) in
    let before : IsTrue (is_before u.corner c) = subst (λ (d : Corner). IsTrue (is_before u.corner d)) corner (after_contained u.corner rest t rising.0 there) in
    ap (λ (b : Bool). cond b (Some (samples_of_plane n u.heights)) (samples_among (map (as_tile n) rest) c)) (before_not_same u.corner c before)
    ∙ samples_found n c rest t rising.1 there corner

module _ (n : ℕ) (tiles : List StoredTile) (m : Mosaic) (c : Corner) (t : StoredTile) (are : AreTilesOf n tiles m) (valid : IsMosaic m) (there : Contains tiles t) (corner : t.corner ≡ c) where
  pub samples_stored : samples_of m c ≡ Some (samples_of_plane n t.heights)
  samples_stored = ap (λ (x : Mosaic). samples_of x c) are.mosaic ∙ samples_found n c tiles t (rising_stored n tiles m are valid) there corner

  filled : IsFilled n t
  filled = All-contains (IsFilled n) tiles t are.filled there

  -- The joined and cut pages are the tile's samples as HGT bytes.
  pub bytes_stored : (samples : List ℤ) × ((samples_of m c ≡ Some samples) × (plane_bytes n t.heights ≡ hgt_bytes samples))
  bytes_stored =
      (samples_of_plane n t.heights, (samples_stored, sym (hgt_bytes-samples_in (plane_bytes n t.heights) (bytes_of_plane n t.heights filled.pages) (omega (arith, length_plane n t.heights filled.pages filled.enough)))))
