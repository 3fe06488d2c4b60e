-- Heights staged without a change: the stored contents stay.
use Rattle.cow_tree.proofs.Prelude.{AreStaged, Bool, Contains, Corner, Format, Image, IsTileListed, List, StoredTile, TileLocation, ℕ, [], any_none, ap, ap₂, false, if◌then◌else◌, map, not, reached, refl, subst, sym, tile_in, true, ◌∙◌, ◌∷◌, ◌≡◌}
use Rattle.page_map.specs.PageMaps.{PageMapValue, IsPrepared, is_at, corners_of_locations, with_record}
use Rattle.cow_tree.proofs.Listed.CornerChanges.{all_changed, corners_still}

pub prepared_tiles : (c : Corner) (r : ℕ) (image : Image) (tiles : List TileLocation) → map (tile_in image) (with_record c r tiles) ≡ map (tile_in image) tiles
prepared_tiles c r image [] = refl
prepared_tiles c r image (t ∷ rest) = ap₂ (λ (x : StoredTile) (xs : List StoredTile). x ∷ xs) (by_test (is_at c t)) (prepared_tiles c r image rest)
  where
    by_test : (v : Bool) → tile_in image (if v then record t { heights = record (t.heights) { record_page = r } } else t) ≡ tile_in image t
    by_test true = refl
    by_test false = refl

abbrev prepared : ℕ → TileLocation → TileLocation
prepared r t = record t { heights = record (t.heights) { record_page = r } }

pub prepared_corners : (c : Corner) (r : ℕ) (tiles : List TileLocation) → corners_of_locations (with_record c r tiles) ≡ corners_of_locations tiles
prepared_corners c r = corners_still c (prepared r) (λ t. refl)

module _ (format : Format) (committed : List TileLocation) (c : Corner) (r : ℕ) (image : Image) (unreached : ¬ Contains (reached committed) r) where
  tile_stays : (t : TileLocation) → IsTileListed format committed image t → IsTileListed format committed image (prepared r t)
  tile_stays t had = record {
    heights = record { listed = λ shared. absurd (let no : true ≡ false = sym (ap not (any_none (reached committed) r unreached)) ∙ shared in cc); indexed = had.heights.indexed };
    kept = had.kept;
  }

  prepared_stays : (tiles : List TileLocation) → AreStaged format committed tiles image → AreStaged format committed (with_record c r tiles) image
  prepared_stays tiles = all_changed c (prepared r) (λ t. refl) (IsTileListed format committed image) tiles tile_stays

pub still_prepared : (format : Format) (old new : PageMapValue) (c : Corner) (image : Image) → IsPrepared c old new → AreStaged format old.committed old.staged image → AreStaged format new.committed new.staged image
still_prepared format old new c image prepared had =
    let committed : new.committed ≡ old.committed = ap (λ (x : PageMapValue). x.committed) prepared.changed in
    subst (λ (x : PageMapValue). AreStaged format x.committed x.staged image) (sym prepared.changed)
    (prepared_stays format old.committed c prepared.record_page image (subst (λ (tiles : List TileLocation). ¬ Contains (reached tiles) prepared.record_page) committed prepared.fresh_record.unreached) old.staged had)
