-- A block's labelling as callers see it, and blocks made of their parts.
use Rattle.std.specs.Prelude.{◌≡◌, ℕ, ◌*◌, ◌<◌, ℤ, List, [], length}
use Rattle.lattice.specs.Limits.{IsSide}
use Rattle.lattice.specs.Block.{Block}
use Rattle.std.specs.Prelude.{Bool, false, not, slice_index_or}
use Rattle.std.specs.Ordering.{int_eq}
use Rattle.lattice.specs.Mosaic.{void}

-- a block's side, and a level and a label for each of its points, row by row from the north-west
pub record LabelledGround : Type 0 where
  pub side : ℕ
  pub levels : List ℤ
  pub labels : List ℕ

-- the block with this side, these heights and these sinks
abbrev pub block_of : ℕ → List ℤ → List ℕ → Block
block_of n heights sinks = record { side = n; heights = heights; sinks = sinks }

-- the block without sinks; which points are ground, and which are linked, doesn't depend on sinks
abbrev pub bare_block : ℕ → List ℤ → Block
bare_block n heights = block_of n heights []

-- a block of this side can have these heights, and the indices of its points fit into 32 bits
pub record AreHeights (n : ℕ) (heights : List ℤ) : Type 0 where
  pub side : IsSide n
  pub small : n * n < 4294967296
  pub whole : length heights ≡ n * n

-- the point has a level
abbrev pub is_marked : List ℤ → ℕ → Bool
is_marked levels e = not (int_eq (slice_index_or levels e void) void)
