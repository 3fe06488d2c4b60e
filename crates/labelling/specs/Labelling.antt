-- A valid labelling of a block: each point's in-block level, and a rim point or an inner outlet that it reaches at that
-- level, after the tiled flooding of Barnes (2016). The definitions are this product's own.
use Rattle.std.specs.Prelude.{◌≡◌, ℕ, ◌*◌, ◌<◌, ℤ, IsTrue, IsFalse, List, length, slice_index, slice_index_or, ◌⊎◌}
use Rattle.lattice.specs.Terrain.{IsFilledLevel, IsPath, end_of, crest}
use Rattle.lattice.specs.Mosaic.{void}
use Rattle.lattice.specs.Block.{Block, block_terrain, is_solid, is_rim, rim_number, is_inner_outlet, is_exit}

-- the label of points that reach an inner outlet
abbrev pub OUT : ℕ
OUT = 0xFFFF

-- the label of a void point
abbrev pub NO_LABEL : ℕ
NO_LABEL = 0xFFFE

module _ (b : Block) where
  -- the label names the point: a rim point by its number, an inner outlet by OUT
  abbrev pub Names : ℕ → ℕ → Type 0
  Names label e = (IsTrue (is_rim b.side e) × (label ≡ rim_number b.side e)) ⊎ (IsTrue (is_inner_outlet b e) × (label ≡ OUT))

  -- a path with this crest leads from e to an outlet that the label names; an inner outlet itself has OUT
  pub record IsLabelAt (e : ℕ) (level : ℤ) (label : ℕ) : Type 0 where
    pub way : (rest : List ℕ) × (IsPath (block_terrain b) e rest × ((crest (block_terrain b) e rest ≡ level)
        × (IsTrue (is_exit b (end_of (block_terrain b) e rest)) × Names label (end_of (block_terrain b) e rest))))
    pub inner_outlet : IsTrue (is_inner_outlet b e) → label ≡ OUT

  -- the level of a ground point is the least crest of paths inside the block to a ground rim point or an inner outlet; its
  -- label names one that is reached at that crest
  pub record IsLabelling (levels : List ℤ) (labels : List ℕ) : Type 0 where
    pub levels_whole : length levels ≡ b.side * b.side
    pub labels_whole : length labels ≡ b.side * b.side
    pub level : (e : ℕ) → IsTrue (is_solid b e) → IsFilledLevel (block_terrain b) e (slice_index_or levels e void)
    pub label : (e : ℕ) → IsTrue (is_solid b e) → IsLabelAt e (slice_index_or levels e void) (slice_index labels e)
    pub void_points : (e : ℕ) → e < b.side * b.side → IsFalse (is_solid b e) → (slice_index_or levels e void ≡ void) × (slice_index labels e ≡ NO_LABEL)
