-- Laws of drainage on every mosaic with its filled levels. Each ground point has exactly one flat distance, one direction and
-- one flow path, which ends off the mosaic. It lies exactly in the watersheds of the points on that path.
use Rattle.std.specs.Prelude.{◌≡◌, ℕ, ℤ, IsTrue, Option, List, Contains, ◌↔◌}
use Rattle.lattice.specs.declared.point.Point.{Point}
use Rattle.lattice.specs.declared.direction.Dir.{Dir}
use Rattle.lattice.specs.Mosaic.{Mosaic, IsMosaic}
use Rattle.lattice.specs.Ground.{is_ground, terrain}
use Rattle.water.specs.Drainage.{AreFilledLevels, IsFlatDistance, IsDirection}
use Rattle.water.specs.FlowPath.{IsFlowPath, IsInWatershed}

-- exactly one value satisfies Q
abbrev pub ExactlyOne : {A : Type 0} → (A → Type 0) → Type 0
ExactlyOne {A} Q = ((a : A) × Q a) × ((a b : A) → Q a → Q b → a ≡ b)

abbrev pub OnGround : (Mosaic → (Point → ℤ) → Point → Type 0) → Type 0
OnGround Law = (m : Mosaic) (level : Point → ℤ) → IsMosaic m → AreFilledLevels (terrain m) level → (x : Point) → IsTrue (is_ground m x) → Law m level x

abbrev pub DistancesAreUnique : Type 0
DistancesAreUnique = OnGround (λ m level x. ExactlyOne (λ (k : ℕ). IsFlatDistance (terrain m) level x k))

abbrev pub DirectionsAreUnique : Type 0
DirectionsAreUnique = OnGround (λ m level x. ExactlyOne (λ (d : Option Dir). IsDirection (terrain m) level x d))

abbrev pub FlowPathsAreUnique : Type 0
FlowPathsAreUnique = OnGround (λ m level x. ExactlyOne (λ (path : List Point). IsFlowPath (terrain m) level x path))

-- a point is in the watershed of p exactly if it is ground and its flow path contains p
abbrev pub WatershedsFollowFlowPaths : Type 0
WatershedsFollowFlowPaths = (m : Mosaic) (level : Point → ℤ) → IsMosaic m → AreFilledLevels (terrain m) level → (p x : Point) →
    IsInWatershed (terrain m) level p x ↔ (IsTrue (is_ground m x) × ((path : List Point) × (IsFlowPath (terrain m) level x path × Contains path p)))
