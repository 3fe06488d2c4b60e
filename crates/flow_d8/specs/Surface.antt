-- The level of a point, from a list of levels.
use Rattle.std.specs.Prelude.{ℕ, ℤ, Bool, not, slice_index_or}
use Rattle.flow_d8.specs.Prelude.{Point, void, is_void}
use Rattle.flow_d8.specs.Filled.{Filled, number_of}

module _ (f : Filled) where
  abbrev pub number_in : Point → ℕ
  number_in p = number_of f.side f.corners p

  unfoldable pub level_at : Point → ℤ
  level_at p = slice_index_or f.levels (number_in p) void

  unfoldable pub has_level : Point → Bool
  has_level p = not (is_void (level_at p))
