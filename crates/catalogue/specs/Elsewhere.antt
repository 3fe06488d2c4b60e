-- Which points of a tile's rim other tiles have, too (defined by this product).
use Rattle.std.specs.Prelude.{◌≡◌, ◌⊎◌, ℕ, ℤ, Bool, ◌&&◌, not}
use Rattle.std.specs.List.{list_any}
use Rattle.lattice.specs.Corners.{Corner, same_corner}
use Rattle.lattice.specs.Lattice.{holds, point_of}
use Rattle.lattice.specs.Mosaic.{Mosaic}
use Rattle.lattice.specs.Height.{height_of}
use Rattle.lattice.specs.Ground.{metres}
use Rattle.lattice.specs.declared.point.Point.{Point}
use Rattle.catalogue.specs.Reading.{IsSampleOf}

-- A present tile other than the corner's has the point.
abbrev pub is_held_elsewhere : Mosaic → Corner → Point → Bool
is_held_elsewhere m c p = list_any (λ t. not (same_corner t.corner c) && holds m.side t.corner p) m.tiles

-- The value is the sample at the index of the corner's tile, or the height of that sample's point.
abbrev pub IsOwnOrHeight : Mosaic → Corner → ℕ → ℤ → Type 0
IsOwnOrHeight m c e s = IsSampleOf m c e s ⊎ (s ≡ metres (height_of m (point_of m.side c e)))
