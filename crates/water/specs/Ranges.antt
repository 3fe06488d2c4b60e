-- The least and the greatest of some levels. The definitions are this product's own.
use Rattle.std.specs.Prelude.{ℤ, ◌≤ℤ◌, int_lt, Bool, ◌&&◌, ◌||◌, not, Option, Some, None}
use Rattle.std.specs.Ordering.{int_eq}
use Rattle.lattice.specs.Mosaic.{void}
use Rattle.water.specs.declared.level_range.LevelRange.{LevelRange}

-- the level lies in the range, if the range is known
abbrev pub IsIn : Option LevelRange → ℤ → Type 0
IsIn None v = Unit {0}
IsIn (Some range) v = (range.least ≤ℤ v) × (v ≤ℤ range.greatest)

-- no level of the range changes when a ground point's height goes from `was` to `is`: all are below both heights, or above
-- both
abbrev pub is_range_spared : ℤ → ℤ → LevelRange → Bool
is_range_spared was is range = not (int_eq is void) && ((int_lt range.greatest was && int_lt range.greatest is) || (int_lt was range.least && int_lt is range.least))
