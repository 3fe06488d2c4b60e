-- Which tiles a block and the adjacency of its points depend on.
use Rattle.std.specs.Prelude.{◌≡◌, ◌<◌, ◌-ℤ◌, nat_abs, IsTrue}
use Rattle.lattice.specs.Corners.{Corner, is_corner}
use Rattle.lattice.specs.Lattice.{holds}
use Rattle.lattice.specs.Mosaic.{Mosaic, IsMosaic, samples_of}
use Rattle.lattice.specs.Height.{height_of}
use Rattle.lattice.specs.Ground.{is_adjacent, is_sink, is_outlet}
use Rattle.lattice.specs.Block.{Block, IsBlockOf}
use Rattle.lattice.specs.declared.point.Point.{Point}

-- The mosaics have the same tiles within one degree of latitude and longitude of the corner: the tile and its
-- neighbours.
abbrev pub SameNearby : Mosaic → Mosaic → Corner → Type 0
SameNearby m new c = (d : Corner) → nat_abs (d.lat -ℤ c.lat) < 2 → nat_abs (d.lon -ℤ c.lon) < 2 → samples_of new d ≡ samples_of m d

-- The heights of a tile's points depend only on the tile and its neighbours.
abbrev pub HeightsAreLocal : Type 0
HeightsAreLocal = (m new : Mosaic) → IsMosaic m → IsMosaic new → new.side ≡ m.side → (c : Corner) → SameNearby m new c → (p : Point) → IsTrue (holds m.side c p) → height_of new p ≡ height_of m p

-- The mosaics have the same declared sinks in the corner's tile.
abbrev pub SameSinksIn : Mosaic → Mosaic → Corner → Type 0
SameSinksIn m new c = (p : Point) → IsTrue (holds m.side c p) → is_sink new p ≡ is_sink m p

-- A tile's block depends only on the tile, its neighbours and the sinks in it.
abbrev pub BlocksAreLocal : Type 0
BlocksAreLocal = (m new : Mosaic) → IsMosaic m → IsMosaic new → new.side ≡ m.side → (c : Corner) → SameNearby m new c → SameSinksIn m new c → IsTrue (is_corner c) → (b : Block) → IsBlockOf m c b → IsBlockOf new c b

-- Which points are adjacent to a tile's points, also beyond its rim, depends only on the tile and its neighbours.
abbrev pub AdjacencyIsLocal : Type 0
AdjacencyIsLocal = (m new : Mosaic) → IsMosaic m → IsMosaic new → new.side ≡ m.side → (c : Corner) → SameNearby m new c → (p q : Point) → IsTrue (holds m.side c p) → is_adjacent new p q ≡ is_adjacent m p q

-- A tile's outlets depend only on the tile, its neighbours and the sinks in it.
abbrev pub OutletsAreLocal : Type 0
OutletsAreLocal = (m new : Mosaic) → IsMosaic m → IsMosaic new → new.side ≡ m.side → (c : Corner) → SameNearby m new c → SameSinksIn m new c → (p : Point) → IsTrue (holds m.side c p) → is_outlet new p ≡ is_outlet m p
