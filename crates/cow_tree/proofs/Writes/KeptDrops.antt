-- A tile is staged without its levels and labels, or with others.
use Rattle.cow_tree.proofs.Prelude.{AreListedBy, AreStaged, Bool, Corner, Format, HasFreshHeights, IfSome, Image, IsTileListed, KeptLocations, List, None, Option, PageMapValue, TileLocation, [], ap₂, corners_of_locations, false, if◌then◌else◌, is_at, map, other_kept, refl, tile_in, true, ◌∷◌, ◌≡◌}
use Rattle.cow_tree.specs.Stored.{StoredTile, stale_tile, made_stale}
use Rattle.cow_tree.proofs.Listed.CornerChanges.{all_changed, corners_still, heights_still}

pub bared_tiles : (c : Corner) (image : Image) (tiles : List TileLocation) → map (tile_in image) (other_kept c None tiles) ≡ made_stale c (map (tile_in image) tiles)
bared_tiles c image [] = refl
bared_tiles c image (t ∷ rest) = ap₂ (λ (x : StoredTile) (xs : List StoredTile). x ∷ xs) (by_test (is_at c t)) (bared_tiles c image rest)
  where
    by_test : (v : Bool) → tile_in image (if v then record t { kept = None } else t) ≡ (if v then stale_tile t.corner (tile_in image t).heights else tile_in image t)
    by_test true = refl
    by_test false = refl

-- the corners of the other tiles, and which of them have staged heights
module _ (c : Corner) (kept : Option KeptLocations) where
  abbrev with_kept : TileLocation → TileLocation
  with_kept t = record t { kept = kept }

  pub other_corners : (tiles : List TileLocation) → corners_of_locations (other_kept c kept tiles) ≡ corners_of_locations tiles
  other_corners = corners_still c with_kept (λ t. refl)

  pub other_still : (old new : PageMapValue) (other : Corner) → new ≡ record old { staged = other_kept c kept old.staged } → HasFreshHeights other old → HasFreshHeights other new
  other_still old new other changed = heights_still c with_kept (λ t. refl) old new changed (λ t fresh. fresh) other

  pub other_stays : (format : Format) (committed : List TileLocation) (image : Image) → IfSome kept (AreListedBy format committed image) → (tiles : List TileLocation)
      → AreStaged format committed tiles image → AreStaged format committed (other_kept c kept tiles) image
  other_stays format committed image here tiles had =
      all_changed c with_kept (λ t. refl) (IsTileListed format committed image) tiles (λ t was. record { heights = was.heights; kept = here }) had
