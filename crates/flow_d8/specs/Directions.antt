-- The directions of all points of a mosaic, by sample number.
use Rattle.std.specs.Prelude.{◌≡◌, ◌<◌, ◌+◌, ℕ, zero, suc, ℤ, IsTrue, IsFalse, Option, Some, None, List, length, slice_index_or}
use Rattle.flow_d8.specs.Prelude.{Point, Dir, step, fits_point, Mosaic, IsMosaic, is_ground, terrain, Flow, NoGround, Outlet, To, Beside, FlatTo}
use Rattle.water.specs.Drainage.{AreFilledLevels, IsFlatDistance, IsDirection}
use Rattle.flow_d8.specs.Filled.{number_of}
use Rattle.water.specs.Flows.{direction_of}
use Rattle.flow_d8.specs.FlowGrids.{AreTold}
use Rattle.flow_d8.specs.Tiles.{Tiles, AreTiles, count_of, by_of}

-- the tiles, and the flow of each of their samples
pub record Directions : Type 0 where
  pub tiles : Tiles
  pub drains : List Flow

pub record AreWhole (d : Directions) : Type 0 where
  pub valid : AreTiles d.tiles
  pub whole : length d.drains ≡ count_of d.tiles
  pub told : AreTold d.drains

abbrev pub number_in : Directions → Point → ℕ
number_in d p = number_of d.tiles.side d.tiles.corners p

-- the flow of sample k; NoGround beyond the last sample
abbrev pub flow_at : Directions → ℕ → Flow
flow_at d k = slice_index_or d.drains k NoGround

-- the flow of a point, from the first tile that has it
abbrev pub flow_in : Directions → Point → Flow
flow_in d p = flow_at d (number_in d p)

-- the point's direction; None if it drains off the mosaic or isn't ground
abbrev pub direction_in : Directions → Point → Option Dir
direction_in d p = direction_of (flow_in d p)

abbrev pub one_more : Option ℕ → Option ℕ
one_more None = None
one_more (Some k) = Some (suc k)

-- the sample that this flow of sample k leads to
abbrev pub after : Directions → ℕ → Flow → ℕ
after d k (FlatTo e) = by_of d.tiles k e
after d k _ = k

-- the number of steps across the flat from a sample with this flow; `rest` is the number from the next sample
abbrev pub across : Flow → Option ℕ → Option ℕ
across Outlet rest = Some 0
across (To e) rest = Some 0
across (Beside e) rest = Some 1
across (FlatTo e) rest = one_more rest
across _ rest = None

-- the number of steps from sample k across its flat; None if there are n or more
unfoldable pub walk : Directions → ℕ → ℕ → Option ℕ
walk d zero k = None
walk d (suc n) k = across (flow_at d k) (walk d n (after d k (flow_at d k)))

-- the point's flat distance; None if it isn't ground
abbrev pub distance_in : Directions → Point → Option ℕ
distance_in d p = walk d (count_of d.tiles) (number_in d p)

-- each ground point has its direction and flat distance; another point has neither
pub record AreDirectionsOf (m : Mosaic) (level : Point → ℤ) (d : Directions) : Type 0 where
  pub direction : (p : Point) → IsTrue (is_ground m p) → IsDirection (terrain m) level p (direction_in d p)
  pub distance : (p : Point) → IsTrue (is_ground m p) → (k : ℕ) × ((distance_in d p ≡ Some k) × IsFlatDistance (terrain m) level p k)
  pub elsewhere : (p : Point) → IsFalse (is_ground m p) → (direction_in d p ≡ None) × (distance_in d p ≡ None)

-- no mosaic has these directions
abbrev pub AreOfNoMosaic : Directions → Type 0
AreOfNoMosaic d = (m : Mosaic) (level : Point → ℤ) → IsMosaic m → AreFilledLevels (terrain m) level → AreDirectionsOf m level d → ⊥

-- the direction of p leads to q, whose coordinates fit into 32 bits
abbrev pub LeadsTo : Directions → Point → Point → Type 0
LeadsTo d p q = (e : Dir) × ((direction_in d p ≡ Some e) × ((q ≡ step e p) × IsTrue (fits_point (step e p))))

-- each point of the path except the last drains to the next one
abbrev pub IsChain : Directions → List Point → Type 0
IsChain d path = (i : ℕ) (x : Point) → i + 1 < length path → LeadsTo d (slice_index_or path i x) (slice_index_or path (i + 1) x)
