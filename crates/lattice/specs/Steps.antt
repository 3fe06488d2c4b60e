-- The eight steps from a point, and which of two drops is steeper (O'Callaghan and Mark 1984; the order of the codes is
-- this product's own).
use Rattle.std.specs.Prelude.{ℕ, ◌*◌, ℤ, pos, negsuc, ◌+ℤ◌, Bool, true, false, if◌then◌else◌, nat_lt, List, [], ◌∷◌}
use Rattle.lattice.specs.declared.point.Point.{Point}
use Rattle.lattice.specs.declared.direction.Dir.{Dir}
use Rattle.lattice.specs.declared.direction.Dir.TheVariants.{East, SouthEast, South, SouthWest, West, NorthWest, North, NorthEast}

-- the eight directions, in the order of their codes
abbrev pub directions : List Dir
directions = East ∷ SouthEast ∷ South ∷ SouthWest ∷ West ∷ NorthWest ∷ North ∷ NorthEast ∷ []

abbrev pub order_of : Dir → ℕ
order_of East = 0
order_of SouthEast = 1
order_of South = 2
order_of SouthWest = 3
order_of West = 4
order_of NorthWest = 5
order_of North = 6
order_of NorthEast = 7

abbrev pub code_of : Dir → ℕ
code_of East = 1
code_of SouthEast = 2
code_of South = 4
code_of SouthWest = 8
code_of West = 16
code_of NorthWest = 32
code_of North = 64
code_of NorthEast = 128

-- the point this far north and this far east
abbrev pub moved : Point → ℤ → ℤ → Point
moved p north east = record { y = p.y +ℤ north; x = p.x +ℤ east }

-- how many points north a step in this direction goes
abbrev pub north_of : Dir → ℤ
north_of East = pos 0
north_of SouthEast = negsuc 0
north_of South = negsuc 0
north_of SouthWest = negsuc 0
north_of West = pos 0
north_of NorthWest = pos 1
north_of North = pos 1
north_of NorthEast = pos 1

-- how many points east a step in this direction goes
abbrev pub east_of : Dir → ℤ
east_of East = pos 1
east_of SouthEast = pos 1
east_of South = pos 0
east_of SouthWest = negsuc 0
east_of West = negsuc 0
east_of NorthWest = negsuc 0
east_of North = pos 0
east_of NorthEast = pos 1

-- the point one step away
abbrev pub step : Dir → Point → Point
step d p = moved p (north_of d) (east_of d)

-- The step goes along a row or a column; the other four are diagonal.
abbrev pub is_straight : Dir → Bool
is_straight East = true
is_straight South = true
is_straight West = true
is_straight North = true
is_straight _ = false

-- twice the square of a drop's slope: a diagonal step is longer by the square root of 2
abbrev pub slope_of : Dir → ℕ → ℕ
slope_of d drop = if is_straight d then 2 * (drop * drop) else drop * drop

-- the first drop is steeper than the second
abbrev pub is_steeper : Dir → ℕ → Dir → ℕ → Bool
is_steeper d p e q = nat_lt (slope_of e q) (slope_of d p)
