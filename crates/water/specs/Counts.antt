-- How many points drain through a point (O'Callaghan and Mark 1984: the drainage area, in points).
use Rattle.std.specs.Prelude.{◌≡◌, ◌≢◌, ◌↔◌, ◌*◌, ◌<◌, ℕ, ℤ, IsTrue, IsFalse, List, Contains, length, slice_index_or}
use Rattle.std.specs.List.{AllPairs}
use Rattle.lattice.specs.Corners.{Corner}
use Rattle.lattice.specs.Lattice.{point_of}
use Rattle.lattice.specs.declared.point.Point.{Point}
use Rattle.lattice.specs.Terrain.{Terrain}
use Rattle.water.specs.FlowPath.{IsInWatershed}

-- the set `inside` has exactly k points
pub record IsCountOf (inside : Point → Type 0) (k : ℕ) : Type 0 where
  pub points : List Point
  pub once : AllPairs (λ p q. p ≢ q) points
  pub all : (p : Point) → Contains points p ↔ inside p
  pub count : length points ≡ k

module _ (t : Terrain Point) (level : Point → ℤ) where
  -- k ground points have p on their flow path, p included; 0 if p isn't ground
  pub record IsUpstreamCount (p : Point) (k : ℕ) : Type 0 where
    pub on_ground : IsTrue (t.is_ground p) → IsCountOf (IsInWatershed t level p) k
    pub elsewhere : IsFalse (t.is_ground p) → k ≡ 0

  -- the counts of all samples of the corner's tile, row by row from the north, west first
  pub record AreUpstreamCounts (n : ℕ) (c : Corner) (counts : List ℕ) : Type 0 where
    pub whole : length counts ≡ n * n
    pub each : (e : ℕ) → e < n * n → IsUpstreamCount (point_of n c e) (slice_index_or counts e 0)
