-- Partial counts of the points at which tiles disagree, for loops and private contracts.
use Rattle.std.specs.Prelude.{ℕ, ◌+◌, ◌-◌, ◌*◌, ℤ, Bool, false, ◌&&◌, if◌then◌else◌, List, [], ◌∷◌, map, filter, sum_by, zero, suc}
use Rattle.lattice.specs.Corners.{Corner, is_before, same_corner}
use Rattle.lattice.specs.Lattice.{holds, point_of}
use Rattle.lattice.specs.Mosaic.{Mosaic}
use Rattle.lattice.specs.RimPoints.{rim_index}
use Rattle.lattice.specs.Height.{disagrees}
use Rattle.lattice.specs.declared.point.Point.{Point}
use Rattle.catalogue.specs.Tiles.{corners_of}

-- the corners of the present tiles with the point, in order
abbrev pub present_holders : Mosaic → Point → List Corner
present_holders m p = map (λ t. t.corner) (filter (λ t. holds m.side t.corner p) m.tiles)

abbrev pub is_first : Corner → List Corner → Bool
is_first c [] = false
is_first c (d ∷ rest) = same_corner d c

-- Tiles disagree at the point, and the corner's tile is the first present one that has it.
abbrev pub is_own_seam : Mosaic → Corner → Point → Bool
is_own_seam m c p = is_first c (present_holders m p) && disagrees m p

-- how many of the first rim points of the corner's tile are its own seams; tiles disagree only at rim points
unfoldable pub own_seams_below : Mosaic → Corner → ℕ → ℕ
own_seams_below m c zero = 0
own_seams_below m c (suc e) = own_seams_below m c e + (if is_own_seam m c (point_of m.side c (rim_index m.side e)) then 1 else 0)

abbrev pub seams_of : Mosaic → Corner → ℕ
seams_of m c = own_seams_below m c (4 * (m.side - 1))

-- the corners before this latitude and longitude
abbrev pub corners_before : ℤ → ℤ → List Corner → List Corner
corners_before lat lon corners = filter (λ c. is_before c (record { lat = lat; lon = lon })) corners

-- the number of own seams of the tiles whose corners are before this latitude and longitude
abbrev pub seams_before : Mosaic → ℤ → ℤ → ℕ
seams_before m lat lon = sum_by (seams_of m) (corners_before lat lon (corners_of m))
