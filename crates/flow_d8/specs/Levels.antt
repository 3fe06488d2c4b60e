-- Filled levels of tiles, and the levels that one tile is prepared from.
use Rattle.std.specs.Prelude.{◌≡◌, ℕ, ◌+◌, ◌/◌, ◌%◌, ◌<◌, ℤ, IsTrue, IsFalse, List, slice_index_or}
use Rattle.flow_d8.specs.Prelude.{Corner, is_ground, terrain, Mosaic, IsMosaic, void, IsFilledLevel, Point}
use Rattle.flow_d8.specs.Filled.{Filled, IsFilledOf}
use Rattle.flow_d8.specs.Padded.{padded_point}
use Rattle.flow_d8.specs.Tiles.{Tiles}

abbrev pub filled_of : Tiles → List ℤ → List Point → Filled
filled_of t levels sinks = record { side = t.side; corners = t.corners; levels = levels; sinks = sinks }

-- if these are a mosaic's filled levels, v is the point's level, or void if the point isn't ground
pub record IsLevelIn (f : Filled) (p : Point) (v : ℤ) : Type 0 where
  pub on_ground : (m : Mosaic) → IsMosaic m → IsFilledOf m f → IsTrue (is_ground m p) → IsFilledLevel (terrain m) p v
  pub elsewhere : (m : Mosaic) → IsMosaic m → IsFilledOf m f → IsFalse (is_ground m p) → v ≡ void

-- the first `count` places of the square around the tile have the levels of their points
abbrev pub ArePaddedTo : Filled → Corner → ℕ → List ℤ → Type 0
ArePaddedTo f c count levels = (e : ℕ) → e < count → IsLevelIn f (padded_point f.side c (e / (f.side + 4)) (e % (f.side + 4))) (slice_index_or levels e void)
