-- What mending requires of a labelling.
use Rattle.std.specs.Prelude.{◌≡◌, ℕ, ℤ, IsTrue, List, Contains, slice_index_or, ◌⊎◌}
use Rattle.lattice.specs.Mosaic.{void}
use Rattle.lattice.specs.Block.{Block, is_solid}
use Rattle.labelling.specs.Blocks.{block_of}
use Rattle.labelling.specs.Labelling.{IsLabelling}
use Rattle.tile_flood.specs.Carried.{AreCarried}

-- these are a valid carried labelling of an earlier block with the same ground. It differs from this block at most in the
-- heights of the listed points
pub record IsLabelledBefore (b : Block) (points : List ℕ) (levels : List ℤ) (labels : List ℕ) : Type 0 where
  pub heights : List ℤ
  pub labelling : IsLabelling (block_of b.side heights b.sinks) levels labels
  pub carried : AreCarried (block_of b.side heights b.sinks) levels labels
  pub ground : (e : ℕ) → is_solid (block_of b.side heights b.sinks) e ≡ is_solid b e
  pub others : (e : ℕ) → IsTrue (is_solid b e) → (slice_index_or heights e void ≡ slice_index_or b.heights e void) ⊎ Contains points e
