-- The counting tour up the flow paths: the counts of samples so far, and those of the points on the path to the current one.
use Rattle.std.specs.Prelude.{◌≡◌, ◌⊎◌, ◌+◌, ◌*◌, ◌<◌, ◌≤◌, ℕ, zero, suc, ℤ, Bool, false, IsTrue, IsFalse, List, [], ◌∷◌, ◌++◌, slice_index_or}
use Rattle.lattice.specs.Lattice.{point_of}
use Rattle.lattice.specs.declared.point.Point.{Point}
use Rattle.lattice.specs.declared.direction.Dir.{Dir}
use Rattle.lattice.specs.Steps.{step, order_of}
use Rattle.lattice.specs.Terrain.{Terrain}
use Rattle.water.specs.FlowPath.{IsInWatershed}
use Rattle.water.specs.Counts.{IsCountOf}
use Rattle.water.specs.Donors.{AreToldBy, DrainsBack}
use Rattle.watershed.specs.declared.counting.Branch.{Branch}
use Rattle.watershed.specs.declared.tile_counts.TileCounts.{TileCounts}

-- the first direction, from `from` on, whose neighbour drains to the point; 8 or `from` if there is none
pub record IsNext (told : List Bool) (from next : ℕ) : Type 0 where
  pub later : from ≤ next
  pub small : (next ≤ 8) ⊎ (next ≡ from)
  pub none_before : (k : ℕ) → from ≤ k → k < next → IsFalse (slice_index_or told k false)
  pub there : next < 8 → IsTrue (slice_index_or told next false)

module _ (t : Terrain Point) (level : Point → ℤ) where
  -- x is the point p, or drains through a donor of p in one of the first k directions
  abbrev pub IsThrough : Point → ℕ → Point → Type 0
  IsThrough p k x = (x ≡ p) ⊎ ((d : Dir) × ((order_of d < k) × (DrainsBack t level p d × IsInWatershed t level (step d p) x)))

  -- k points drain through the ground point p
  pub record IsCounted (p : Point) (k : ℕ) : Type 0 where
    pub on_ground : IsTrue (t.is_ground p)
    pub count : IsCountOf (IsInWatershed t level p) k

  -- the known counts of the tile's samples are right; 0 is unknown
  abbrev pub AreCounted : TileCounts → Type 0
  AreCounted k = (e : ℕ) → e < k.side * k.side → (slice_index_or k.counts.items e 0 ≡ 0) ⊎ IsCounted (point_of k.side k.corner e) (slice_index_or k.counts.items e 0)

  pub record IsBranch (b : Branch) : Type 0 where
    pub on_ground : IsTrue (t.is_ground b.point)
    pub donors : AreToldBy (DrainsBack t level b.point) b.donors 8

  -- the branch has counted its point, and all that drains through the donors in the directions before `looked`
  pub record IsCounting (b : Branch) : Type 0 where
    pub branch : IsBranch b
    pub count : IsCountOf (IsThrough b.point b.looked) b.count

  -- the branch has counted all before its last direction; its donor in that direction is p, which is still to be counted
  pub record IsWaiting (b : Branch) (p : Point) : Type 0 where
    pub branch : IsBranch b
    pub last : Dir
    pub looked : b.looked ≡ order_of last + 1
    pub leads : step last b.point ≡ p
    pub drains : DrainsBack t level b.point last
    pub count : IsCountOf (IsThrough b.point (order_of last)) b.count

  -- the branches are the points on the flow path from p to the first point, without p; each waits for the one before it
  abbrev pub AreWaiting : Point → ℕ → List Branch → Point → Type 0
  AreWaiting first zero branches p = (branches ≡ []) × (p ≡ first)
  AreWaiting first (suc n) branches p = (rest : List Branch) × ((b : Branch) × ((branches ≡ rest ++ b ∷ []) × (IsWaiting b p × AreWaiting first n rest b.point)))

  pub record IsTour (first : Point) (at : Branch) (branches : List Branch) : Type 0 where
    pub counting : IsCounting at
    pub depth : ℕ
    pub waiting : AreWaiting first depth branches at.point

  -- all counts are right, and no known count was lost
  pub record AreStillCounted (old new : TileCounts) : Type 0 where
    pub right : AreCounted new
    pub still : (e : ℕ) → slice_index_or new.counts.items e 0 ≡ 0 → slice_index_or old.counts.items e 0 ≡ 0
