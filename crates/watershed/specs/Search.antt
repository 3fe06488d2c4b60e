-- The search up the flow paths: which points lead to a point, and which are found.
use Rattle.std.specs.Prelude.{◌≡◌, ℕ, zero, suc, ℤ, IsTrue}
use Rattle.lattice.specs.declared.point.Point.{Point}
use Rattle.lattice.specs.Terrain.{Terrain}
use Rattle.water.specs.Donors.{IsDonor}

module _ (t : Terrain Point) (level : Point → ℤ) where
  -- k steps, each from a donor to the point that it drains to, lead from x to p
  abbrev pub LeadsTo : Point → ℕ → Point → Type 0
  LeadsTo x zero p = x ≡ p
  LeadsTo x (suc k) p = (y : Point) × (IsDonor t level x y × LeadsTo y k p)

  -- if p is ground, the found points are those that lead to p
  pub record AreUpstream (p : Point) (Found : Point → Type 0) : Type 0 where
    pub lead : (x : Point) → Found x → (k : ℕ) × LeadsTo x k p
    pub begins : IsTrue (t.is_ground p) → Found p
    pub elsewhere : (x : Point) → Found x → IsTrue (t.is_ground p)
    pub closed : (q x : Point) → Found q → IsDonor t level x q → Found x
