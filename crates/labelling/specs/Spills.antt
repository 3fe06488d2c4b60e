-- The spills of a labelling: at which level water passes between points with two labels, after the tiled flooding of Barnes
-- (2016). The definitions are this product's own.
use Rattle.std.specs.Prelude.{◌≡◌, ℕ, ◌<◌, ℤ, ◌≤ℤ◌, IsTrue, List, slice_index, slice_index_or, Contains}
use Rattle.std.specs.Int.{int_max}
use Rattle.std.specs.List.{AllPairs}
use Rattle.lattice.specs.Mosaic.{void}
use Rattle.lattice.specs.Block.{is_linked}
use Rattle.labelling.specs.Blocks.{bare_block}
use Rattle.labelling.specs.declared.spill.Spill.{Spill}

-- the spills have the same two labels
pub record HaveSameLabels (p q : Spill) : Type 0 where
  pub same_a : p.a ≡ q.a
  pub same_b : p.b ≡ q.b

module _ (n : ℕ) (heights levels : List ℤ) (labels : List ℕ) where
  -- two adjacent points have these labels, and this is the greater of their levels
  pub record Meets (a b : ℕ) (level : ℤ) : Type 0 where
    pub points : (e : ℕ) × (f : ℕ) × (IsTrue (is_linked (bare_block n heights) e f) × ((slice_index labels e ≡ a) × ((slice_index labels f ≡ b)
        × (int_max (slice_index_or levels e void) (slice_index_or levels f void) ≡ level))))

  -- the labels meet at this level, and at no lower one
  pub record IsSpill (p : Spill) : Type 0 where
    pub in_order : p.a < p.b
    pub meets : Meets p.a p.b p.level
    pub least : (level : ℤ) → Meets p.a p.b level → p.level ≤ℤ level

  -- the list has exactly one spill for each two labels that meet
  pub record AreSpills (spills : List Spill) : Type 0 where
    pub each : (p : Spill) → Contains spills p → IsSpill p
    pub all : (a b : ℕ) (level : ℤ) → a < b → Meets a b level → (p : Spill) × (Contains spills p × ((p.a ≡ a) × (p.b ≡ b)))
    pub once : AllPairs (λ p q. ¬ HaveSameLabels p q) spills
