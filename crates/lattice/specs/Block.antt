-- A block: the n by n points of one tile as a terrain, with their heights by the seam rule and the sinks among them;
-- and the numbers of its rim points (defined by this product, after the tiled flooding of Barnes 2016).
use Rattle.std.specs.Prelude.{◌≡◌, ℕ, ◌+◌, ◌-◌, ◌*◌, ◌/◌, ◌%◌, ◌<◌, ℤ, Bool, ◌&&◌, ◌||◌, not, if◌then◌else◌, nat_lt, nat_le, nat_eq, List, [], ◌∷◌, length, slice_index_or}
use Rattle.std.specs.List.{list_all, list_any}
use Rattle.lattice.specs.Corners.{Corner}
use Rattle.lattice.specs.Lattice.{point_of}
use Rattle.lattice.specs.Terrain.{Terrain}
use Rattle.lattice.specs.Mosaic.{Mosaic, void, is_void}
use Rattle.lattice.specs.Height.{height_of}
use Rattle.lattice.specs.Ground.{metres, is_sink}

-- a block: its side, the heights of its points by index (void if a point has none), and the indices of the sinks among
-- its points
pub record Block : Type 0 where
  pub side : ℕ
  pub heights : List ℤ
  pub sinks : List ℕ

-- The point with this index is in the first or last row or column.
abbrev pub is_rim : ℕ → ℕ → Bool
is_rim n e = nat_eq (e / n) 0 || nat_eq (e / n + 1) n || nat_eq (e % n) 0 || nat_eq (e % n + 1) n

-- the number of a rim point: in row order from the north-west, from 0
abbrev pub rim_number : ℕ → ℕ → ℕ
rim_number n e = if nat_eq (e / n) 0 then e else (if nat_eq (e / n + 1) n then n + 2 * (n - 2) + e % n
    else n + 2 * (e / n - 1) + (if nat_eq (e % n) 0 then 0 else 1))

-- the eight points around a point that isn't on the rim
abbrev pub around : ℕ → ℕ → List ℕ
around n e = (e - n - 1) ∷ (e - n) ∷ (e - n + 1) ∷ (e - 1) ∷ (e + 1) ∷ (e + n - 1) ∷ (e + n) ∷ (e + n + 1) ∷ []

-- The points are at most one row and one column apart.
abbrev pub is_beside : ℕ → ℕ → ℕ → Bool
is_beside n e f = nat_le (e / n) (f / n + 1) && nat_le (f / n) (e / n + 1) && nat_le (e % n) (f % n + 1) && nat_le (f % n) (e % n + 1)

module _ (b : Block) where
  -- a ground point of the block
  abbrev pub is_solid : ℕ → Bool
  is_solid e = nat_lt e (b.side * b.side) && not (is_void (slice_index_or b.heights e void))

  -- The points are different ground points, at most one row and one column apart.
  abbrev pub is_linked : ℕ → ℕ → Bool
  is_linked e f = is_solid e && is_solid f && not (nat_eq e f) && is_beside b.side e f

  -- the point is declared a sink
  abbrev pub is_sink_at : ℕ → Bool
  is_sink_at e = list_any (λ s. nat_eq s e) b.sinks

  -- an inner outlet: a ground point off the rim with a void among the eight around it, or one that is declared a sink
  abbrev pub is_inner_outlet : ℕ → Bool
  is_inner_outlet e = is_solid e && not (is_rim b.side e) && (not (list_all is_solid (around b.side e)) || is_sink_at e)

  -- a point where a path may leave the block: a ground point on the rim, or an inner outlet
  abbrev pub is_exit : ℕ → Bool
  is_exit e = (is_solid e && is_rim b.side e) || is_inner_outlet e

  abbrev pub block_terrain : Terrain ℕ
  block_terrain = record { is_ground = is_solid; height = λ e. slice_index_or b.heights e void; is_adjacent = is_linked; is_outlet = is_exit }

-- The heights are those of the tile's points by the seam rule, by index, and void if a point has none.
pub record AreHeightsOf (m : Mosaic) (c : Corner) (heights : List ℤ) : Type 0 where
  pub whole : length heights ≡ m.side * m.side
  pub values : (e : ℕ) → e < m.side * m.side → slice_index_or heights e void ≡ metres (height_of m (point_of m.side c e))

-- The block is that of the corner's tile in the mosaic.
pub record IsBlockOf (m : Mosaic) (c : Corner) (b : Block) : Type 0 where
  pub side : b.side ≡ m.side
  pub heights : AreHeightsOf m c b.heights
  pub sinks : (e : ℕ) → e < m.side * m.side → is_sink_at b e ≡ is_sink m (point_of m.side c e)
