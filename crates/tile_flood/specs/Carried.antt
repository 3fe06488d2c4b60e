-- Carried labels: each point's label is that of a neighbour, down to an outlet. A flood makes them, and mending requires
-- them.
use Rattle.std.specs.Prelude.{◌≡◌, ◌≢◌, ℕ, ℤ, ◌≤ℤ◌, IsTrue, IsFalse, List, [], ◌∷◌, slice_index, slice_index_or}
use Rattle.std.specs.Int.{int_max}
use Rattle.lattice.specs.Mosaic.{void}
use Rattle.lattice.specs.Block.{Block, is_solid, is_linked, is_exit, is_inner_outlet}
use Rattle.labelling.specs.Labelling.{Names, OUT}

module _ (b : Block) (levels : List ℤ) (labels : List ℕ) where
  -- e is an outlet at its own height, with its own label
  pub record IsSeed (e : ℕ) : Type 0 where
    pub exit : IsTrue (is_exit b e)
    pub level : slice_index_or levels e void ≡ slice_index_or b.heights e void
    pub names : Names b (slice_index labels e) e
    pub inner_outlet : IsTrue (is_inner_outlet b e) → slice_index labels e ≡ OUT

  -- e isn't an outlet, and its level and label may have been computed from its neighbour f
  pub record DependsOn (e f : ℕ) : Type 0 where
    pub inner : IsFalse (is_exit b e)
    pub link : IsTrue (is_linked b e f)
    pub full : slice_index_or levels f void ≢ void
    pub label : slice_index labels e ≡ slice_index labels f
    pub level : slice_index_or levels e void ≡ int_max (slice_index_or b.heights e void) (slice_index_or levels f void)

  -- each point from e on depends on the next one, and the last is an outlet
  abbrev pub IsCarriedBy : ℕ → List ℕ → Type 0
  IsCarriedBy e [] = IsSeed e
  IsCarriedBy e (f ∷ rest) = DependsOn e f × IsCarriedBy f rest

  abbrev pub IsCarried : ℕ → Type 0
  IsCarried e = (rest : List ℕ) × IsCarriedBy e rest

  -- the level and label of each ground point are carried
  abbrev pub AreCarried : Type 0
  AreCarried = (e : ℕ) → IsTrue (is_solid b e) → IsCarried e

-- no level is greater than its height and the neighbouring levels allow
pub record AreRelaxed (b : Block) (levels : List ℤ) : Type 0 where
  pub exits : (e : ℕ) → IsTrue (is_exit b e) → slice_index_or levels e void ≤ℤ slice_index_or b.heights e void
  pub links : (x y : ℕ) → IsTrue (is_linked b x y) → slice_index_or levels y void ≤ℤ int_max (slice_index_or b.heights y void) (slice_index_or levels x void)
