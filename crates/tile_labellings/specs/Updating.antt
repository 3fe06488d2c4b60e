-- Updating one height of a block.
use Rattle.std.specs.Prelude.{◌≡◌, ◌≢◌, ℕ, ◌<◌, ◌<ℤ◌, ◌≤ℤ◌, ◌++◌, ◌∷◌, [], ◌⊎◌, ℤ, IsTrue, List, length, slice_set, slice_index_or}
use Rattle.lattice.specs.Block.{Block, is_solid}
use Rattle.lattice.specs.Mosaic.{void}
use Rattle.labelling.specs.Blocks.{block_of}

-- point e of the new block has the height h, and was ground and still is; all else is unchanged
pub record IsUpdated (b : Block) (e : ℕ) (h : ℤ) (new : Block) : Type 0 where
  pub inside : e < length b.heights
  pub ground : IsTrue (is_solid b e)
  pub full : h ≢ void
  pub is : new ≡ block_of b.side (slice_set b.heights e h) b.sinks

-- the point is listed, or it lay below its level and hasn't risen above it
abbrev pub IsListedUnlessBelow : List ℤ → List ℤ → ℕ → ℤ → List ℕ → List ℕ → Type 0
IsListedUnlessBelow levels heights e was points points' =
    ((points' ≡ points) × ((was <ℤ slice_index_or levels e void) × (slice_index_or heights e void ≤ℤ slice_index_or levels e void))) ⊎ (points' ≡ points ++ e ∷ [])
