-- What the parts of a terrain (`Parts`) show about the whole: filled levels, flat distances, flow paths and counts.
use Rattle.std.specs.Prelude.{◌≡◌, ◌≢◌, ◌↔◌, ◌≤◌, ◌+◌, ℕ, ℤ, Bool, IsTrue, IsFalse, Option, Some, List, Contains}
use Rattle.std.specs.List.{AllPairs, sum_by}
use Rattle.lattice.specs.Mosaic.{Mosaic, IsMosaic}
use Rattle.lattice.specs.Ground.{is_ground, terrain}
use Rattle.lattice.specs.declared.point.Point.{Point}
use Rattle.lattice.specs.declared.direction.Dir.{Dir}
use Rattle.lattice.specs.Steps.{step}
use Rattle.lattice.specs.Terrain.{Terrain, IsFilledLevel, IsLawful}
use Rattle.water.specs.Drainage.{AreFilledLevels, IsDirection, IsFlatDistance}
use Rattle.water.specs.FlowPath.{FlowsTo, IsInWatershed}
use Rattle.water.specs.Counts.{IsCountOf}
use Rattle.water.specs.Parts.{IsBordered, CrossesWithin, IsJoinedLevel, AreOutlines, IsAnyLink, IsAnyOutline, Crossing, Crosses, IsPathWithin}

-- a part's filled levels, computed with the levels of a ring, are those of the whole terrain
abbrev pub LevelsFollowARing : Type 0
LevelsFollowARing = (b t : Terrain Point) (at : Point → Point) (ring : Point → Bool) → IsBordered b t at ring → IsLawful b →
    (x : Point) (l : ℤ) → IsTrue (b.is_ground x) → IsFilledLevel b x l ↔ IsFilledLevel t (at x) l

-- computed with the ring's flat distances too, a part's flat distances are those of the whole terrain
abbrev pub FlatDistancesFollowARing : Type 0
FlatDistancesFollowARing = (b t : Terrain Point) (at : Point → Point) (ring : Point → Bool) → IsBordered b t at ring → IsLawful b →
    (level : Point → ℤ) (distance : Point → ℕ) → ((x : Point) → IsTrue (b.is_ground x) → IsTrue (ring x) → IsFlatDistance t level (at x) (distance x)) →
    (x : Point) (k : ℕ) → IsTrue (b.is_ground x) → CrossesWithin b ring (λ y. level (at y)) distance x k →
    ((j : ℕ) → CrossesWithin b ring (λ y. level (at y)) distance x j → k ≤ j) → IsFlatDistance t level (at x) k

-- the least level at which water leaves from a shared place is the same over the outlines as over all links
abbrev pub LevelsFollowOutlines : Type 0
LevelsFollowOutlines = (links outlines : ℕ → Option Point → Option Point → ℤ → Bool) (is_shared : Option Point → Bool) (out : Option Point) →
    AreOutlines (λ i x y l. IsTrue (links i x y l)) (λ i x y l. IsTrue (outlines i x y l)) is_shared out →
    (x : Option Point) (level : ℤ) → IsTrue (is_shared x) →
    IsJoinedLevel (IsAnyOutline (λ i x y l. IsTrue (links i x y l)) (λ i x y l. IsTrue (outlines i x y l)) is_shared out) out x level ↔
    IsJoinedLevel (IsAnyLink (λ i x y l. IsTrue (links i x y l)) (λ i x y l. IsTrue (outlines i x y l)) is_shared out) out x level

-- x drains straight to y
abbrev pub DrainsTo : Terrain Point → (Point → ℤ) → Point → Point → Type 0
DrainsTo t level x y = (d : Dir) × (IsDirection t level x (Some d) × (y ≡ step d x))

-- a flow path reaches a point exactly if pieces within one owner each do, from exit to exit
abbrev pub FlowPathsFollowExits : Type 0
FlowPathsFollowExits = (t : Terrain Point) (level : Point → ℤ) (is_one_owner : Point → Point → Bool) (p x : Point) →
    ((k : ℕ) × FlowsTo t level x k p) ↔ ((crossings : List (Crossing Point)) × Crosses (DrainsTo t level) is_one_owner p x crossings)

module _ (t : Terrain Point) (level : Point → ℤ) (is_one_owner : Point → Point → Bool) where
  -- x is a ground point whose flow path reaches q over points of one owner
  abbrev pub ComesWithin : Point → Point → Type 0
  ComesWithin q x = IsTrue (t.is_ground x) × ((rest : List Point) × IsPathWithin (DrainsTo t level) is_one_owner q x rest)

  -- e drains to a point of another owner, and that point's flow path reaches p
  pub record IsExitAbove (p e : Point) : Type 0 where
    pub entry : Point
    pub drains : DrainsTo t level e entry
    pub other : IsFalse (is_one_owner e entry)
    pub above : (k : ℕ) × FlowsTo t level entry k p

-- the points that drain through p are those that reach p, or an exit above p, over points of one owner
abbrev pub CountsFollowExits : Type 0
CountsFollowExits = (m : Mosaic) (level : Point → ℤ) → IsMosaic m → AreFilledLevels (terrain m) level → (is_one_owner : Point → Point → Bool) (p : Point) → IsTrue (is_ground m p) →
    (exits : List Point) (own : ℕ) (count : Point → ℕ) → AllPairs (λ e f. e ≢ f) exits →
    ((e : Point) → Contains exits e ↔ IsExitAbove (terrain m) level is_one_owner p e) →
    IsCountOf (ComesWithin (terrain m) level is_one_owner p) own →
    ((e : Point) → IsExitAbove (terrain m) level is_one_owner p e → IsCountOf (ComesWithin (terrain m) level is_one_owner e) (count e)) →
    IsCountOf (IsInWatershed (terrain m) level p) (own + sum_by count exits)
