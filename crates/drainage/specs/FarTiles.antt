-- Tiles that come or go far from all others, and what they leave in the cache (defined by this product).
use Rattle.std.specs.Prelude.{◌≡◌, ◌-ℤ◌, nat_abs, nat_lt, Bool, true, false, ◌||◌, List, Contains, Option, Some, None, IfSome}
use Rattle.std.specs.Global.{Vec}
use Rattle.std.specs.List.{list_all}
use Rattle.catalogue.specs.Tiles.{corners_of}
use Rattle.flow_cache.specs.FlowCaches.{IsKnownOf}
use Rattle.flow_cache.specs.declared.flow_cache.FlowCache.{FlowCache}
use Rattle.lattice.specs.Corners.{Corner, same_corner}
use Rattle.lattice.specs.Lattice.{holds}
use Rattle.lattice.specs.Mosaic.{Mosaic}
use Rattle.lattice.specs.declared.point.Point.{Point}
use Rattle.levels.specs.declared.tile_cache.TileCache.{TileCache}
use Rattle.drainage.specs.declared.drainage_cache.DrainageCache.{DrainageCache}

-- more than two degrees of latitude or of longitude apart
abbrev pub are_far : Corner → Corner → Bool
are_far a b = nat_lt 2 (nat_abs (a.lat -ℤ b.lat)) || nat_lt 2 (nat_abs (a.lon -ℤ b.lon))

-- each other of these corners is far from this one
abbrev pub is_far_from : List Corner → Corner → Bool
is_far_from corners c = list_all (λ d. same_corner d c || are_far d c) corners

-- the corners are listed, and each other one is far from this one
abbrev pub is_far_in : Option (Vec Corner) → Corner → Bool
is_far_in None c = false
is_far_in (Some corners) c = is_far_from corners.items c

-- where corners are listed, each tile's is among them
abbrev pub are_listed : Mosaic → Option (Vec Corner) → Type 0
are_listed m None = Unit {0}
are_listed m (Some corners) = (c : Corner) → Contains (corners_of m) c → Contains corners.items c

-- the corners of the tiles whose levels are cached, else those that are listed
abbrev pub corners_in : Option TileCache → Option (Vec Corner) → Option (Vec Corner)
corners_in None listed = listed
corners_in (Some tile_cache) listed = Some tile_cache.rim_graph.corners

-- the list, where there is one, has this corner and those that were listed
abbrev pub is_with : Option (Vec Corner) → Corner → Option (Vec Corner) → Type 0
is_with listed c None = Unit {0}
is_with listed c (Some corners) = (before : Vec Corner) × ((listed ≡ Some before) × (Contains corners.items c × ((d : Corner) → Contains before.items d → Contains corners.items d)))

-- each point that the corner's tile doesn't have, and whose flow was known, has a known flow
abbrev pub are_known_off : Corner → Option FlowCache → Option FlowCache → Type 0
are_known_off c None left = left ≡ None
are_known_off c (Some cache) left = (some : FlowCache) × ((left ≡ Some some) × ((p : Point) → holds cache.grid.tiles.side c p ≡ false → IsKnownOf cache.grid p → IsKnownOf some.grid p))

-- When the corner's tile comes or goes, and each other one is far from it, known flows stay elsewhere. The list of corners stays
-- if this one is in it.
pub record IsKeptOff (c : Corner) (held left : DrainageCache) : Type 0 where
  pub flows : is_far_in (corners_in held.tile_cache held.corners) c ≡ true → are_known_off c held.flow_cache left.flow_cache
  pub corners : IfSome (corners_in held.tile_cache held.corners) (λ corners. Contains corners.items c → left.corners ≡ Some corners)
