-- The pages of a stored tile's planes, by the plane's name.
use Rattle.std.specs.Prelude.{◌≡◌, ℕ, List, Contains, Option, Some, option_and_then, option_map, slice_get}
use Rattle.lattice.specs.Corners.{Corner}
use Rattle.page_map.specs.declared.plane.Plane.{Plane}
use Rattle.page_map.specs.declared.plane.Plane.TheVariants.{Heights, Levels, Labels}
use Rattle.cow_tree.specs.Stored.{PlanePages, KeptPlanes, StoredTile}

-- the pages of the tile's plane, if it has one
abbrev pub stored_plane : Plane → StoredTile → Option PlanePages
stored_plane Heights t = Some t.heights
stored_plane Levels t = option_map (λ (k : KeptPlanes). k.levels) t.kept
stored_plane Labels t = option_map (λ (k : KeptPlanes). k.labels) t.kept

-- page i of the plane
abbrev pub stored_page : Plane → ℕ → StoredTile → Option (List ℕ)
stored_page plane i t = option_and_then (λ (pages : PlanePages). slice_get pages i) (stored_plane plane t)

-- page i of the corner's plane
abbrev pub HasPage : List StoredTile → Corner → Plane → ℕ → List ℕ → Type 0
HasPage tiles c plane i bytes = (t : StoredTile) × (Contains tiles t × ((t.corner ≡ c) × (stored_page plane i t ≡ Some bytes)))
