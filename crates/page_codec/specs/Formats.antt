-- The format of a store: the part of its root that only an upgrade changes (defined by this product).
use Rattle.std.specs.Prelude.{ℕ, ◌≤◌}
use Rattle.lattice.specs.Limits.{largest_side, most_tiles}
use Rattle.page_codec.specs.declared.version.Version.{Version}
use Rattle.page_codec.specs.declared.version.Version.TheVariants.{One, Two}

-- the number of a version in a root
abbrev pub number_of : Version → ℕ
number_of One = 1
number_of Two = 2

-- the newest version of a store
abbrev pub newest : Version
newest = Two

abbrev pub IsKnown : Version → Type 0
IsKnown version = number_of version ≤ number_of newest

abbrev pub largest_side_of : Version → ℕ
largest_side_of One = 1201
largest_side_of Two = largest_side

-- the version of the layout, the side of the tiles, and the capacity in tiles
pub record Format : Type 0 where
  pub version : Version
  pub side : ℕ
  pub capacity : ℕ

pub record IsFormat (f : Format) : Type 0 where
  pub side_low : 3 ≤ f.side
  pub side_high : f.side ≤ largest_side_of f.version
  pub capacity_low : 1 ≤ f.capacity
  pub capacity_high : f.capacity ≤ most_tiles

-- the format in the first version
abbrev pub format_1 : (side capacity : ℕ) → Format
format_1 side capacity = record { version = One; side = side; capacity = capacity }

-- the same store in the second version
abbrev pub upgraded : Format → Format
upgraded f = record f { version = Two }
