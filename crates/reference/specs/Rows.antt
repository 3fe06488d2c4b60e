-- Worked rows that the definitions themselves compute, on tiles of three by three samples, written as rows from the north.
use Rattle.std.specs.Prelude.{◌≡◌, ℕ, ℤ, pos, negsuc, true, false, Some, None, Ok, Err, List, [], ◌∷◌, map}
use Rattle.lattice.specs.Corners.{Corner}
use Rattle.lattice.specs.declared.point.Point.{Point}
use Rattle.lattice.specs.declared.height.Height.TheVariants as height
use Rattle.lattice.specs.declared.direction.Dir.TheVariants.{East, SouthEast, North, NorthEast}
use Rattle.lattice.specs.declared.refusal.Refusal.TheVariants.{BadLength, TileThere, NoTile, Full, Outside, Void, NothingVoid, BadHeight, BadDepth, BadBox, Repeated, TooDeep, SinkThere, NoSink}
use Rattle.lattice.specs.Mosaic.{Tile, Mosaic, empty_mosaic, samples_of, void}
use Rattle.lattice.specs.Height.{height_of, disagrees}
use Rattle.lattice.specs.Ground.{is_adjacent, is_outlet, degree_of}
use Rattle.lattice.specs.Block.{rim_number}
use Rattle.lattice.specs.Steps.{directions, north_of, east_of, code_of, is_steeper}
use Rattle.edits.specs.declared.command.Command.{Command}
use Rattle.edits.specs.declared.command.Command.TheVariants.{Import, Remove, Patch, Burn, Wall, Sink, Unsink}
use Rattle.catalogue.specs.Tiles.{without, with_sinks}
use Rattle.edits.specs.Effect.{effect, burnt, walled}

abbrev pub place : ℤ → ℤ → Corner
place lat lon = record { lat = lat; lon = lon }

abbrev pub at : ℕ → ℕ → Point
at y x = record { y = pos y; x = pos x }

-- the tile with this south-west corner
abbrev pub tile : ℤ → ℤ → List ℤ → Tile
tile lat lon samples = record { corner = place lat lon; samples = samples }

-- samples that are 9, except in the middle row
abbrev pub with_middle : ℤ → ℤ → ℤ → List ℤ
with_middle a b c = pos 9 ∷ pos 9 ∷ pos 9 ∷ a ∷ b ∷ c ∷ pos 9 ∷ pos 9 ∷ pos 9 ∷ []

abbrev pub all_of : ℤ → List ℤ
all_of s = s ∷ s ∷ s ∷ s ∷ s ∷ s ∷ s ∷ s ∷ s ∷ []

-- two tiles side by side
abbrev pub pair : List ℤ → List ℤ → Mosaic
pair west east = record (empty_mosaic 3) { tiles = tile (pos 0) (pos 0) west ∷ tile (pos 0) (pos 1) east ∷ [] }

abbrev pub single : List ℤ → Mosaic
single samples = record (empty_mosaic 3) { tiles = tile (pos 0) (pos 0) samples ∷ [] }

-- 7 and 8 on the seam of two tiles: the first tile decides until it is removed
abbrev pub seven_eight : Mosaic
seven_eight = pair (with_middle (pos 9) (pos 9) (pos 7)) (with_middle (pos 8) (pos 9) (pos 9))

abbrev pub SeamRows : Type 0
SeamRows =
    (height_of seven_eight (at 1 2) ≡ height.At (pos 7)) × (disagrees seven_eight (at 1 2) ≡ true) × (disagrees seven_eight (at 0 2) ≡ false)
    × (height_of (without (place (pos 0) (pos 0)) seven_eight) (at 1 2) ≡ height.At (pos 8))

-- a burn and a wall on the seam change both tiles, which agree afterwards
abbrev pub EditRows : Type 0
EditRows =
    (effect 4 seven_eight (Burn (pos 1) (record { items = at 1 2 ∷ [] })) ≡ Ok (pair (with_middle (pos 9) (pos 9) (pos 6)) (with_middle (pos 6) (pos 9) (pos 9))))
    × (height_of (burnt (pos 1) (at 1 2 ∷ []) seven_eight) (at 1 2) ≡ height.At (pos 6))
    × (height_of (without (place (pos 0) (pos 0)) (burnt (pos 1) (at 1 2 ∷ []) seven_eight)) (at 1 2) ≡ height.At (pos 6))
    × (effect 4 seven_eight (Wall (pos 3) (record { items = at 1 2 ∷ [] })) ≡ Ok (pair (with_middle (pos 9) (pos 9) (pos 7)) (with_middle (pos 7) (pos 9) (pos 9))))
    × (disagrees (walled (pos 3) (at 1 2 ∷ []) seven_eight) (at 1 2) ≡ false)
    × (height_of (without (place (pos 0) (pos 0)) (walled (pos 3) (at 1 2 ∷ []) seven_eight)) (at 1 2) ≡ height.At (pos 7))

-- a void and 8 on a seam: the point isn't void
abbrev pub void_eight : Mosaic
void_eight = pair (with_middle (pos 9) (pos 9) void) (with_middle (pos 8) (pos 9) (pos 9))

abbrev pub VoidRows : Type 0
VoidRows = (height_of void_eight (at 1 2) ≡ height.At (pos 8)) × (effect 4 void_eight (Patch (at 1 2) (at 1 2) (pos 4)) ≡ Err NothingVoid)

-- a tile with a void in the middle
abbrev pub hollow : Mosaic
hollow = single (with_middle (pos 9) void (pos 9))

abbrev pub burn : ℤ → List Point → Command
burn depth points = Burn depth (record { items = points })

abbrev pub wall : ℤ → List Point → Command
wall h points = Wall h (record { items = points })

-- when a patch is refused; a patch of the void in `hollow` sets its height, and then no point is void
abbrev pub PatchRows : Type 0
PatchRows =
    (height_of hollow (at 1 1) ≡ height.Void) × (effect 4 hollow (Patch (at 0 0) (at 0 3) (pos 4)) ≡ Err BadBox)
    × (effect 4 hollow (Patch (at 1 1) (at 0 1) (pos 4)) ≡ Err BadBox) × (effect 4 hollow (Patch (at 0 0) (at 2 2) (pos 40000)) ≡ Err BadHeight)
    × (effect 4 (empty_mosaic 3) (Patch (at 0 0) (at 2 2) (pos 4)) ≡ Err NothingVoid)
    × (effect 4 hollow (Patch (at 1 1) (at 1 1) (pos 4)) ≡ Ok (single (with_middle (pos 9) (pos 4) (pos 9))))
    × (effect 4 hollow (Patch (at 1 1) (at 3 3) (pos 4)) ≡ Ok (single (with_middle (pos 9) (pos 4) (pos 9))))
    × (effect 4 (single (with_middle (pos 9) (pos 4) (pos 9))) (Patch (at 1 1) (at 1 1) (pos 4)) ≡ Err NothingVoid)
    × (height_of (single (with_middle (pos 9) (pos 4) (pos 9))) (at 1 1) ≡ height.At (pos 4))

-- the first test that applies refuses the command, and then the first point
abbrev pub RefusalRows : Type 0
RefusalRows =
    (effect 4 hollow (burn (pos 1) (at 1 1 ∷ at 1 1 ∷ [])) ≡ Err Repeated) × (effect 4 hollow (burn (pos 0) (at 1 1 ∷ [])) ≡ Err BadDepth)
    × (effect 4 hollow (burn (pos 0) (at 1 1 ∷ at 1 1 ∷ [])) ≡ Err BadDepth) × (effect 4 hollow (burn (pos 5) (at 9 9 ∷ at 1 1 ∷ [])) ≡ Err Outside)
    × (effect 4 hollow (burn (pos 5) (at 1 1 ∷ at 9 9 ∷ [])) ≡ Err Void) × (effect 4 hollow (wall (pos 32768) (at 1 1 ∷ at 1 1 ∷ [])) ≡ Err BadHeight)

-- a burn by 32767 is too deep at height -1, and not at height 0
abbrev pub DepthRows : Type 0
DepthRows =
    (effect 4 (single (with_middle (pos 9) (negsuc 0) (pos 9))) (burn (pos 32767) (at 1 1 ∷ [])) ≡ Err TooDeep)
    × (effect 4 (single (with_middle (pos 9) (pos 0) (pos 9))) (burn (pos 32767) (at 1 1 ∷ [])) ≡ Ok (single (with_middle (pos 9) (negsuc 32766) (pos 9))))
    × (height_of (single (with_middle (pos 9) (negsuc 32766) (pos 9))) (at 1 1) ≡ height.At (negsuc 32766))

-- samples that are 9, except for 1 in the middle and 5 in the south-east, and their bytes
abbrev pub basin : List ℤ
basin = pos 9 ∷ pos 9 ∷ pos 9 ∷ pos 9 ∷ pos 1 ∷ pos 9 ∷ pos 9 ∷ pos 9 ∷ pos 5 ∷ []

abbrev pub basin_bytes : List ℕ
basin_bytes = 0 ∷ 9 ∷ 0 ∷ 9 ∷ 0 ∷ 9 ∷ 0 ∷ 9 ∷ 0 ∷ 1 ∷ 0 ∷ 9 ∷ 0 ∷ 9 ∷ 0 ∷ 9 ∷ 0 ∷ 5 ∷ []

-- two such tiles; the one to the south-west is first in order
abbrev pub two_basins : Mosaic
two_basins = record (empty_mosaic 3) { tiles = tile (negsuc 0) (negsuc 0) basin ∷ tile (pos 0) (pos 0) basin ∷ [] }

-- the mosaic after imports and removals, and when they are refused
abbrev pub ImportRows : Type 0
ImportRows =
    (height_of (empty_mosaic 3) (at 0 0) ≡ height.Outside) × (samples_of (empty_mosaic 3) (place (pos 0) (pos 0)) ≡ None)
    × (effect 4 (empty_mosaic 3) (Import (place (pos 0) (pos 0)) basin_bytes) ≡ Ok (single basin)) × (height_of (single basin) (at 0 2) ≡ height.At (pos 5))
    × (height_of (single basin) (at 2 0) ≡ height.At (pos 9)) × (samples_of (single basin) (place (pos 0) (pos 0)) ≡ Some basin)
    × (effect 4 (single basin) (Import (place (negsuc 0) (negsuc 0)) basin_bytes) ≡ Ok two_basins) × (height_of two_basins (at 0 0) ≡ height.At (pos 9))
    × (effect 4 two_basins (Remove (place (negsuc 0) (negsuc 0))) ≡ Ok (single basin)) × (effect 4 (single basin) (Remove (place (pos 0) (pos 1))) ≡ Err NoTile)
    × (effect 1 (single basin) (Import (place (pos 0) (pos 1)) basin_bytes) ≡ Err Full) × (effect 1 (single basin) (Import (place (pos 0) (pos 0)) basin_bytes) ≡ Err TileThere)
    × (effect 4 (empty_mosaic 3) (Import (place (negsuc 0) (negsuc 0)) (9 ∷ [])) ≡ Err BadLength)

-- two tiles that meet at one point, (2, 2); no tile holds both (2, 1) and (3, 2)
abbrev pub corner_to_corner : Mosaic
corner_to_corner = record (empty_mosaic 3) { tiles = tile (pos 0) (pos 0) (all_of (pos 5)) ∷ tile (pos 1) (pos 1) (all_of (pos 1)) ∷ [] }

abbrev pub AdjacencyRows : Type 0
AdjacencyRows =
    (height_of corner_to_corner (at 2 2) ≡ height.At (pos 5)) × (is_adjacent corner_to_corner (at 2 1) (at 3 2) ≡ false)
    × (is_adjacent corner_to_corner (at 2 1) (at 2 2) ≡ true) × (degree_of corner_to_corner (at 2 2) ≡ 6)
    × (is_outlet corner_to_corner (at 2 2) ≡ true) × (is_outlet corner_to_corner (at 1 1) ≡ false)

-- a sink is an outlet if it is ground, not if it is void or outside; it stays when its tile is removed
abbrev pub SinkRows : Type 0
SinkRows =
    (is_outlet (single basin) (at 1 1) ≡ false) × (is_outlet (with_sinks (at 1 1 ∷ []) (single basin)) (at 1 1) ≡ true)
    × (is_outlet (with_sinks (at 1 1 ∷ []) hollow) (at 1 1) ≡ false) × (is_outlet (with_sinks (at 5 5 ∷ []) (single basin)) (at 5 5) ≡ false)
    × (effect 4 (with_sinks (at 1 1 ∷ []) (single basin)) (Remove (place (pos 0) (pos 0))) ≡ Ok (with_sinks (at 1 1 ∷ []) (empty_mosaic 3)))
    × (effect 4 (with_sinks (at 1 1 ∷ []) (empty_mosaic 3)) (Import (place (pos 0) (pos 0)) basin_bytes) ≡ Ok (with_sinks (at 1 1 ∷ []) (single basin)))
    × (effect 4 (single basin) (Sink (at 1 1)) ≡ Ok (with_sinks (at 1 1 ∷ []) (single basin))) × (effect 4 (single basin) (Sink (at 5 5)) ≡ Err Outside)
    × (effect 4 hollow (Sink (at 1 1)) ≡ Err Void) × (effect 4 (with_sinks (at 1 1 ∷ []) (single basin)) (Sink (at 1 1)) ≡ Err SinkThere)
    × (effect 4 (with_sinks (at 1 1 ∷ []) (single basin)) (Sink (at 1 0)) ≡ Ok (with_sinks (at 1 0 ∷ at 1 1 ∷ []) (single basin)))
    × (effect 4 (with_sinks (at 1 0 ∷ at 1 1 ∷ []) (single basin)) (Unsink (at 1 1)) ≡ Ok (with_sinks (at 1 0 ∷ []) (single basin)))
    × (effect 4 (single basin) (Unsink (at 1 1)) ≡ Err NoSink)

-- a straight drop of 8 is steeper than a diagonal one of 10, and one of 7 isn't; the order of the eight steps
abbrev pub StepRows : Type 0
StepRows =
    (is_steeper East 8 SouthEast 10 ≡ true) × (is_steeper East 7 SouthEast 10 ≡ false) × (is_steeper SouthEast 10 East 7 ≡ true)
    × (is_steeper North 4 East 4 ≡ false) × (is_steeper NorthEast 4 East 4 ≡ false)
    × (map code_of directions ≡ 1 ∷ 2 ∷ 4 ∷ 8 ∷ 16 ∷ 32 ∷ 64 ∷ 128 ∷ [])
    × (map north_of directions ≡ pos 0 ∷ negsuc 0 ∷ negsuc 0 ∷ negsuc 0 ∷ pos 0 ∷ pos 1 ∷ pos 1 ∷ pos 1 ∷ [])
    × (map east_of directions ≡ pos 1 ∷ pos 1 ∷ pos 0 ∷ negsuc 0 ∷ negsuc 0 ∷ negsuc 0 ∷ pos 0 ∷ pos 1 ∷ [])

-- the numbers of the rim points, by rows from the north
abbrev pub RimRows : Type 0
RimRows = map (rim_number 3) (0 ∷ 1 ∷ 2 ∷ 3 ∷ 5 ∷ 6 ∷ 7 ∷ 8 ∷ []) ≡ 0 ∷ 1 ∷ 2 ∷ 3 ∷ 4 ∷ 5 ∷ 6 ∷ 7 ∷ []
