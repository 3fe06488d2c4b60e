-- Levels and labels, staged as whole planes (defined by this product).
use Rattle.std.specs.Prelude.{ℕ, List, map, Some, if◌then◌else◌}
use Rattle.lattice.specs.Corners.{Corner, same_corner}
use Rattle.page_codec.specs.Sizes.{pages_of}
use Rattle.cow_tree.specs.Stored.{KeptPlanes, StoredTile, pages_of_bytes}

-- these bytes of levels and of labels, as pages of planes of this side
abbrev pub planes_of_bytes : ℕ → (levels labels : List ℕ) → KeptPlanes
planes_of_bytes n levels labels = record { levels = pages_of_bytes (pages_of n) levels; labels = pages_of_bytes (pages_of n) labels }

-- the tile with these kept planes if it is the corner's, else unchanged
abbrev pub with_kept_in : Corner → KeptPlanes → StoredTile → StoredTile
with_kept_in c kept t = if same_corner t.corner c then record t { kept = Some kept } else t

abbrev pub with_kept : Corner → KeptPlanes → List StoredTile → List StoredTile
with_kept c kept tiles = map (with_kept_in c kept) tiles
