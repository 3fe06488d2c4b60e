-- The flow path of a point, and its watershed: the points that drain through it (O'Callaghan and Mark 1984).
use Rattle.std.specs.Prelude.{◌≡◌, ℕ, zero, suc, ℤ, IsTrue, Some, None, List, [], ◌∷◌}
use Rattle.lattice.specs.declared.point.Point.{Point}
use Rattle.lattice.specs.declared.direction.Dir.{Dir}
use Rattle.lattice.specs.Steps.{step}
use Rattle.lattice.specs.Terrain.{Terrain}
use Rattle.water.specs.Drainage.{IsDirection}

module _ (t : Terrain Point) (level : Point → ℤ) where
  -- after k steps the flow path of x is at p
  abbrev pub FlowsTo : Point → ℕ → Point → Type 0
  FlowsTo x zero p = x ≡ p
  FlowsTo x (suc k) p = (d : Dir) × (IsDirection t level x (Some d) × FlowsTo (step d x) k p)

  -- x, then the next point in its direction, and so on, up to a point that drains off the mosaic
  abbrev pub IsFlowPath : Point → List Point → Type 0
  IsFlowPath x [] = ⊥
  IsFlowPath x (y ∷ []) = (y ≡ x) × IsDirection t level x None
  IsFlowPath x (y ∷ z ∷ rest) = (y ≡ x) × ((d : Dir) × (IsDirection t level x (Some d) × ((z ≡ step d x) × IsFlowPath (step d x) (z ∷ rest))))

  -- x is a ground point whose flow path contains p
  pub record IsInWatershed (p x : Point) : Type 0 where
    pub on_ground : IsTrue (t.is_ground x)
    pub flows : (k : ℕ) × FlowsTo x k p
