-- The places of a point's samples (defined by this product).
use Rattle.std.specs.Prelude.{◌≡◌, ℕ, ◌*◌, ◌<◌, ◌≤◌, IsTrue, IsFalse, List, length, All, AllPairs, Contains}
use Rattle.lattice.specs.Corners.{Corner, is_corner, same_corner}
use Rattle.lattice.specs.declared.point.Point.{Point}
use Rattle.lattice.specs.Lattice.{point_of}
use Rattle.edits.specs.declared.places.Place.{Place}

-- The place is that of a sample of a present tile, at the point.
pub record IsPlace (n : ℕ) (corners : List Corner) (p : Point) (place : Place) : Type 0 where
  pub present : Contains corners place.corner
  pub within : place.index < n * n
  pub here : point_of n place.corner place.index ≡ p

-- These are all places of the point, each once; there are at most four.
pub record ArePlaces (n : ℕ) (corners : List Corner) (p : Point) (places : List Place) : Type 0 where
  pub each : All (IsPlace n corners p) places
  pub complete : (c : Corner) (e : ℕ) → IsTrue (is_corner c) → Contains corners c → e < n * n → point_of n c e ≡ p → Contains places (record { corner = c; index = e })
  pub once : AllPairs (λ x y. IsFalse (same_corner x.corner y.corner)) places
  pub few : length places ≤ 4
