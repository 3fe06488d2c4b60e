-- Parts of a terrain: a part with a ring around its points, the outlines of parts, and flow paths from part to part. After R.
-- Barnes, Parallel Priority-Flood depression filling for trillion cell digital elevation models (2016), and Parallel
-- non-divergent flow accumulation for trillion cell digital elevation models (2017).
use Rattle.std.specs.Prelude.{◌≡◌, ℕ, zero, suc, ℤ, ◌≤ℤ◌, Bool, IsTrue, IsFalse, Some, List, [], ◌∷◌, ◌⊎◌}
use Rattle.lattice.specs.declared.point.Point.{Point}
use Rattle.lattice.specs.declared.direction.Dir.{Dir}
use Rattle.lattice.specs.Steps.{step}
use Rattle.lattice.specs.Terrain.{Terrain, IsFilledLevel}
use Rattle.water.specs.Drainage.{HasLower, IsDirection, IsFlatDistance}

-- b is a part of t with a ring. Points off the ring have the heights, neighbours and outlets that they have in t. At each
-- point of the ring water leaves at the point's filled level in t
pub record IsBordered {B P : Type 0} (b : Terrain B) (t : Terrain P) (at : B → P) (ring : B → Bool) : Type 0 where
  pub solid : (x : B) → IsTrue (b.is_ground x) → IsTrue (t.is_ground (at x))
  pub onto : (x y : B) → IsTrue (b.is_adjacent x y) → IsTrue (t.is_adjacent (at x) (at y))
  pub heights : (x : B) → IsTrue (b.is_ground x) → IsFalse (ring x) → b.height x ≡ t.height (at x)
  pub inner : (x : B) (q : P) → IsTrue (b.is_ground x) → IsFalse (ring x) → IsTrue (t.is_adjacent (at x) q) → (y : B) × (IsTrue (b.is_adjacent x y) × (at y ≡ q))
  pub outlets : (x : B) → IsTrue (b.is_ground x) → IsFalse (ring x) → b.is_outlet x ≡ t.is_outlet (at x)
  pub ring_outlets : (x : B) → IsTrue (b.is_ground x) → IsTrue (ring x) → IsTrue (b.is_outlet x)
  pub ring_levels : (x : B) → IsTrue (b.is_ground x) → IsTrue (ring x) → IsFilledLevel t (at x) (b.height x)

-- k steps over a flat within a part lead to a point with a lower neighbour, or to an outlet; or fewer lead to a ring point
-- whose given distance makes up the rest
module _ (b : Terrain Point) (ring : Point → Bool) (level : Point → ℤ) (distance : Point → ℕ) where
  abbrev pub CrossesWithin : Point → ℕ → Type 0
  CrossesWithin x zero = (IsTrue (ring x) × (distance x ≡ 0)) ⊎ (IsFalse (ring x) × (HasLower b level x ⊎ IsTrue (b.is_outlet x)))
  CrossesWithin x (suc k) = (IsTrue (ring x) × (distance x ≡ suc k)) ⊎ (IsFalse (ring x) × ((y : Point) × (IsTrue (b.is_adjacent x y) × (level y ≡ level x) × CrossesWithin y k)))

-- paths to a place over links with levels
module _ {Q : Type 0} (IsLink : Q → Q → ℤ → Type 0) (to : Q) where
  abbrev pub IsLinkBelow : ℤ → Q → Q → Type 0
  IsLinkBelow level x y = (l : ℤ) × (IsLink x y l × (l ≤ℤ level))

  abbrev pub IsWayBelow : ℤ → Q → List Q → Type 0
  IsWayBelow level x [] = x ≡ to
  IsWayBelow level x (y ∷ rest) = IsLinkBelow level x y × IsWayBelow level y rest

  pub record IsJoinedLevel (x : Q) (level : ℤ) : Type 0 where
    pub reached : (rest : List Q) × IsWayBelow level x rest
    pub least : (lower : ℤ) (rest : List Q) → IsWayBelow lower x rest → level ≤ℤ lower

-- the links of part i, and its outline
module _ {Q I : Type 0} (Link Outline : I → Q → Q → ℤ → Type 0) (is_shared : Q → Bool) (out : Q) where
  abbrev pub IsAnyLink : Q → Q → ℤ → Type 0
  IsAnyLink x y level = (i : I) × Link i x y level

  abbrev pub IsAnyOutline : Q → Q → ℤ → Type 0
  IsAnyOutline x y level = (i : I) × Outline i x y level

  pub record AreOutlines : Type 0 where
    -- links of two parts meet only in shared places, and the place where water leaves is shared
    pub meet : (i j : I) (x y z : Q) (l k : ℤ) → Link i x y l → Link j y z k → (j ≡ i) ⊎ IsTrue (is_shared y)
    pub leaves : IsTrue (is_shared out)
    -- between shared places a part's outline leads as low as its links
    pub kept : (i : I) (x y : Q) (level : ℤ) (rest : List Q) → IsTrue (is_shared x) → IsTrue (is_shared y) → IsWayBelow (Link i) y level x rest → (r : List Q) × IsWayBelow (Outline i) y level x r
    pub only : (i : I) (x y : Q) (level : ℤ) → Outline i x y level → (r : List Q) × IsWayBelow (Link i) y level x r

-- a step from a point to a point of another owner
pub record Crossing (P : Type 0) : Type 0 where
  pub exit : P
  pub entry : P

-- flow paths over points that have owners
module _ {P : Type 0} (Flows : P → P → Type 0) (is_one_owner : P → P → Bool) where
  -- a flow path leads from x over the points of the list, the last of which is `end`
  abbrev pub IsPathTo : P → P → List P → Type 0
  IsPathTo end x [] = x ≡ end
  IsPathTo end x (y ∷ rest) = Flows x y × IsPathTo end y rest

  -- `IsPathTo` along points that all have one owner
  abbrev pub IsPathWithin : P → P → List P → Type 0
  IsPathWithin end x [] = x ≡ end
  IsPathWithin end x (y ∷ rest) = Flows x y × (IsTrue (is_one_owner x y) × IsPathWithin end y rest)

  -- the flow path crosses from owner to owner at these exits
  abbrev pub Crosses : P → P → List (Crossing P) → Type 0
  Crosses end x [] = (rest : List P) × IsPathWithin end x rest
  Crosses end x (c ∷ more) = ((rest : List P) × IsPathWithin c.exit x rest) × (Flows c.exit c.entry × (IsFalse (is_one_owner c.exit c.entry) × Crosses end c.entry more))
