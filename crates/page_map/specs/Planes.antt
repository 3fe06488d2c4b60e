-- The planes of a tile by name.
use Rattle.std.specs.Prelude.{◌≡◌, List, Contains, Option, Some, option_map}
use Rattle.lattice.specs.Corners.{Corner}
use Rattle.page_map.specs.declared.plane.Plane.{Plane}
use Rattle.page_map.specs.declared.plane.Plane.TheVariants.{Heights, Levels, Labels}
use Rattle.page_map.specs.declared.locations.KeptLocations.{KeptLocations}
use Rattle.page_map.specs.Locations.{PlaneLocation}
use Rattle.page_map.specs.TileLocations.{TileLocation}

-- the location of the tile's plane, if the tile has it
abbrev pub plane_of : Plane → TileLocation → Option PlaneLocation
plane_of Heights t = Some t.heights
plane_of Levels t = option_map (λ (k : KeptLocations). k.levels) t.kept
plane_of Labels t = option_map (λ (k : KeptLocations). k.labels) t.kept

-- The corner's tile has its plane at this location.
abbrev pub HasPlaneAt : List TileLocation → Corner → Plane → PlaneLocation → Type 0
HasPlaneAt tiles c plane location = (t : TileLocation) × (Contains tiles t × ((t.corner ≡ c) × (plane_of plane t ≡ Some location)))

-- The corner's tile has this plane.
abbrev pub HasPlane : List TileLocation → Corner → Plane → Type 0
HasPlane tiles c plane = (location : PlaneLocation) × HasPlaneAt tiles c plane location
