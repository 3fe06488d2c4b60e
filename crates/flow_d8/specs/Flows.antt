-- What a flow says about its sample's point.
use Rattle.std.specs.Prelude.{◌≡◌, ℕ, ◌<◌, ℤ, IsTrue, IsFalse, Some, List, slice_index_or}
use Rattle.flow_d8.specs.Prelude.{Point, Dir, step, Terrain, Flow, Unknown, NoGround, Outlet, To, Beside, Flat, FlatTo}
use Rattle.water.specs.Drainage.{HasLower, IsSteepest, CrossesFlat, IsDirection}
use Rattle.water.specs.Grid.{IsStepped}

abbrev pub IsOfFlat : Flow → Type 0
IsOfFlat (Beside d) = Unit {0}
IsOfFlat Flat = Unit {0}
IsOfFlat (FlatTo d) = Unit {0}
IsOfFlat _ = ⊥

abbrev pub IsBeside : Flow → Type 0
IsBeside (Beside d) = Unit {0}
IsBeside _ = ⊥

-- the point lies inside a flat, and the flow has its direction
abbrev pub IsTold : Flow → Type 0
IsTold (Beside d) = Unit {0}
IsTold (FlatTo d) = Unit {0}
IsTold _ = ⊥

-- the flow has this direction
abbrev pub Names : Flow → Dir → Type 0
Names (To d) e = d ≡ e
Names (Beside d) e = d ≡ e
Names (FlatTo d) e = d ≡ e
Names _ e = ⊥

-- adjacent points are a step apart, and a ground point inside a flat has eight of them
pub record IsFull (t : Terrain Point) : Type 0 where
  pub stepped : IsStepped t
  pub full : (x : Point) → IsTrue (t.is_ground x) → IsFalse (t.is_outlet x) → (d : Dir) → IsTrue (t.is_adjacent x (step d x))

module _ (t : Terrain Point) (level : Point → ℤ) where
  pub record LiesInside (x : Point) : Type 0 where
    pub ground : IsTrue (t.is_ground x)
    pub inside : CrossesFlat t level x 0 → ⊥

  -- what the flow says about the point x is true
  abbrev pub IsFlow : Point → Flow → Type 0
  IsFlow x Unknown = Unit {0}
  IsFlow x NoGround = IsFalse (t.is_ground x)
  IsFlow x Outlet = (HasLower t level x → ⊥) × IsTrue (t.is_outlet x)
  IsFlow x (To d) = IsSteepest t level x d
  IsFlow x (Beside d) = LiesInside x × (CrossesFlat t level x 1 × IsDirection t level x (Some d))
  IsFlow x Flat = LiesInside x × (CrossesFlat t level x 1 → ⊥)
  IsFlow x (FlatTo d) = LiesInside x × ((CrossesFlat t level x 1 → ⊥) × IsDirection t level x (Some d))

  -- what the levels around a point show is true: where it drains, or only that it lies inside a flat
  abbrev pub IsFlowNear : Point → Flow → Type 0
  IsFlowNear x Unknown = LiesInside x
  IsFlowNear x Outlet = (HasLower t level x → ⊥) × IsTrue (t.is_outlet x)
  IsFlowNear x (To d) = IsSteepest t level x d
  IsFlowNear x _ = ⊥

  -- the flow has the point's direction
  abbrev pub IsResolved : Point → Flow → Type 0
  IsResolved x flow = (d : Dir) × (Names flow d × IsDirection t level x (Some d))

  -- each flow of the array is right for its place's point
  abbrev pub AreFlows : (ℕ → Point) → List Flow → Type 0
  AreFlows place flows = (k : ℕ) → IsFlow (place k) (slice_index_or flows k Unknown)

-- a step between places of the array is the step between their points
abbrev pub AreLaid : (ℕ → Dir → ℕ) → ℕ → (ℕ → Point) → Type 0
AreLaid by count place = (k : ℕ) (d : Dir) → k < count → by k d < count → place (by k d) ≡ step d (place k)
