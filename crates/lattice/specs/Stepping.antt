-- The steps that the code can make from a point whose coordinates are numbers of 32 bits.
use Rattle.std.specs.Prelude.{ℤ, pos, negsuc, int_le, Bool, ◌&&◌, if◌then◌else◌, List, [], ◌∷◌}
use Rattle.lattice.specs.declared.point.Point.{Point}
use Rattle.lattice.specs.declared.direction.Dir.{Dir}
use Rattle.lattice.specs.declared.direction.Step.{Step}
use Rattle.lattice.specs.Steps.{step}

abbrev pub fits_number : ℤ → Bool
fits_number v = int_le (negsuc 2147483647) v && int_le v (pos 2147483647)

abbrev pub fits_point : Point → Bool
fits_point p = fits_number p.y && fits_number p.x

-- the steps in these directions, in order, to points whose coordinates fit 32 bits
abbrev pub reach_of : Point → List Dir → List Step
reach_of p [] = []
reach_of p (d ∷ rest) = if fits_point (step d p) then record { direction = d; to = step d p } ∷ reach_of p rest else reach_of p rest
