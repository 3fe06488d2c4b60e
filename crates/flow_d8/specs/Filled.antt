-- Filled levels of many tiles, tile after tile in one list, and where in the list a point's level stands.
use Rattle.std.specs.Prelude.{◌≡◌, ℕ, ◌+◌, ◌*◌, ◌/◌, ◌%◌, nat_le, ◌<◌, ◌≤◌, ℤ, Bool, IsTrue, IsFalse, ◌&&◌, if◌then◌else◌, List, [], ◌∷◌, length, map, slice_index_or, slice_get, Some}
use Rattle.std.specs.List.{list_any, AllAdjacentBelow}
use Rattle.flow_d8.specs.Prelude.{largest_side, Point, Corner, is_corner, IsBefore, holds, index_of, point_of, IsFilledLevel, Mosaic, IsMosaic, void, is_ground, terrain}

-- so many samples have numbers of four bytes
abbrev pub most_samples : ℕ
most_samples = 4294967295

-- the corners of the tiles, the levels of each tile in turn, row by row from the north, west first, and the declared sinks
pub record Filled : Type 0 where
  pub side : ℕ
  pub corners : List Corner
  pub levels : List ℤ
  pub sinks : List Point

-- corners in the order of tiles, no more than have numbers for their samples, and a level for each sample
pub record AreLevels (f : Filled) : Type 0 where
  pub side_low : 3 ≤ f.side
  pub side_high : f.side ≤ largest_side
  pub few : length f.corners * (f.side * f.side) ≤ most_samples
  pub in_order : AllAdjacentBelow IsBefore f.corners (length f.corners)
  pub whole : length f.levels ≡ length f.corners * (f.side * f.side)

-- these are the mosaic's filled levels on its present tiles, void where a point isn't ground, and the mosaic's sinks
pub record IsFilledOf (m : Mosaic) (f : Filled) : Type 0 where
  pub side : f.side ≡ m.side
  pub corners : f.corners ≡ map (λ t. t.corner) m.tiles
  pub on_ground : (k e : ℕ) (c : Corner) → slice_get f.corners k ≡ Some c → e < f.side * f.side → IsTrue (is_ground m (point_of f.side c e))
      → IsFilledLevel (terrain m) (point_of f.side c e) (slice_index_or f.levels (k * (f.side * f.side) + e) void)
  pub elsewhere : (k e : ℕ) (c : Corner) → slice_get f.corners k ≡ Some c → e < f.side * f.side → IsFalse (is_ground m (point_of f.side c e))
      → slice_index_or f.levels (k * (f.side * f.side) + e) void ≡ void
  pub sinks : f.sinks ≡ m.sinks

-- the corner's tile has the point
abbrev pub is_holder : ℕ → Corner → Point → Bool
is_holder n c p = is_corner c && holds n c p

-- some tile of these corners has the point
abbrev pub is_held : ℕ → List Corner → Point → Bool
is_held n corners p = list_any (λ c. is_holder n c p) corners

-- the number of the point's sample in the first tile that has it, counted tile after tile; beyond the last sample if no tile
-- has it
unfoldable pub number_of : ℕ → List Corner → Point → ℕ
number_of n [] p = 0
number_of n (c ∷ rest) p = if is_holder n c p then index_of n c p else n * n + number_of n rest p

-- no mosaic has these filled levels
abbrev pub IsOfNoMosaic : Filled → Type 0
IsOfNoMosaic f = (m : Mosaic) → IsMosaic m → IsFilledOf m f → ⊥

-- the sample lies at least two samples from the edges of its tile
abbrev pub is_deep : ℕ → ℕ → Bool
is_deep n e = nat_le 2 (e / n) && nat_le (e / n + 3) n && nat_le 2 (e % n) && nat_le (e % n + 3) n
