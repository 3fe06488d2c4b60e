-- The locations of the planes of tiles, and which pages tiles reach (defined by this product).
use Rattle.std.specs.Prelude.{ℕ, ◌≤◌, ◌<◌, List, ◌++◌, [], All, Option, Some, None}
use Rattle.std.specs.List.{flat_map}
use Rattle.lattice.specs.Corners.{Corner}
use Rattle.page_map.specs.declared.locations.KeptLocations.{KeptLocations}
use Rattle.page_map.specs.Locations.{PlaneLocation, pages_of_plane, times}

-- the locations of a tile's planes
pub record TileLocation : Type 0 where
  pub corner : Corner
  pub heights : PlaneLocation
  pub kept : Option KeptLocations

-- all pages of kept planes, of a tile, and of tiles
abbrev pub pages_of_kept : Option KeptLocations → List ℕ
pages_of_kept None = []
pages_of_kept (Some k) = pages_of_plane k.levels ++ pages_of_plane k.labels

abbrev pub pages_of_tile : TileLocation → List ℕ
pages_of_tile t = pages_of_plane t.heights ++ pages_of_kept t.kept

abbrev pub reached : List TileLocation → List ℕ
reached tiles = flat_map pages_of_tile tiles

-- The page rule: the pages that tiles reach are pages of a disk with this many sectors, each reached once.
pub record KeepsPageRule (sectors : ℕ) (tiles : List TileLocation) : Type 0 where
  pub low : All (λ p. 4 ≤ p) (reached tiles)
  pub high : All (λ p. p < sectors) (reached tiles)
  pub once : (p : ℕ) → times p (reached tiles) ≤ 1
