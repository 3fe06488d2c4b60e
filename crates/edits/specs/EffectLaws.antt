-- Laws of the effect of a command: what it makes, and what it leaves unchanged.
use Rattle.std.specs.Prelude.{◌≡◌, ◌↔◌, ℕ, ◌<◌, ◌≤◌, IsTrue, IsFalse, Ok, List, All, Contains, length}
use Rattle.std.specs.List.{AllAdjacentBelow}
use Rattle.lattice.specs.Corners.{Corner, is_corner}
use Rattle.lattice.specs.declared.point.Point.{Point}
use Rattle.lattice.specs.Block.{Block, IsBlockOf}
use Rattle.lattice.specs.Ground.{is_sink}
use Rattle.lattice.specs.Height.{height_of}
use Rattle.lattice.specs.Lattice.{IsBefore, holds}
use Rattle.lattice.specs.Mosaic.{Tile, Mosaic, IsMosaic}
use Rattle.catalogue.specs.Tiles.{corners_of}
use Rattle.edits.specs.declared.command.Command.{Command}
use Rattle.edits.specs.declared.command.Command.TheVariants.{Import}
use Rattle.edits.specs.Effect.{effect, has_void, is_in_box, is_void_at}
use Rattle.edits.specs.Touched.{is_touched, goes_stale, stale_after}

-- The command is one that callers can give: its corner is in range, and its bytes have eight bits.
abbrev pub IsCommand : Command → Type 0
IsCommand (Import c bytes) = IsTrue (is_corner c) × All (λ b. b < 256) bytes
IsCommand _ = Unit {0}

-- An accepted command makes a mosaic.
abbrev pub CommandsMakeMosaics : Type 0
CommandsMakeMosaics = (capacity : ℕ) (m : Mosaic) (c : Command) (new : Mosaic) → IsMosaic m → IsCommand c → effect capacity m c ≡ Ok new → IsMosaic new

-- A command keeps the side of the tiles.
abbrev pub CommandsKeepTheSide : Type 0
CommandsKeepTheSide = (capacity : ℕ) (m : Mosaic) (c : Command) (new : Mosaic) → effect capacity m c ≡ Ok new → new.side ≡ m.side

-- If there were at most `capacity` tiles, there are at most as many after a command.
abbrev pub CommandsKeepTheCapacity : Type 0
CommandsKeepTheCapacity = (capacity : ℕ) (m : Mosaic) (c : Command) (new : Mosaic) → length m.tiles ≤ capacity → effect capacity m c ≡ Ok new → length new.tiles ≤ capacity

-- A tile that the command doesn't touch stays the same.
abbrev pub UntouchedTilesStay : Type 0
UntouchedTilesStay = (capacity : ℕ) (m : Mosaic) (c : Command) (new : Mosaic) (t : Tile) → IsMosaic m → effect capacity m c ≡ Ok new →
    Contains m.tiles t → IsFalse (is_touched m c t) → Contains new.tiles t

-- each stale tile is present
abbrev pub StaleTilesArePresent : Type 0
StaleTilesArePresent = (m : Mosaic) (c : Command) (stale : List Corner) (new : Mosaic) (p : Corner) → Contains (stale_after m c stale new) p → Contains (corners_of new) p

-- Stale tiles are listed in the order of tiles, each once.
abbrev pub StaleTilesAreInOrder : Type 0
StaleTilesAreInOrder = (m : Mosaic) (c : Command) (stale : List Corner) (new : Mosaic) → IsMosaic new → AllAdjacentBelow IsBefore (stale_after m c stale new) (length (stale_after m c stale new))

-- a tile that the command doesn't make stale keeps the heights of its points
abbrev pub FreshHeightsStay : Type 0
FreshHeightsStay = (capacity : ℕ) (m : Mosaic) (c : Command) (new : Mosaic) (p : Corner) (q : Point) → IsMosaic m → effect capacity m c ≡ Ok new →
    IsFalse (goes_stale m c p) → IsTrue (holds m.side p q) → height_of new q ≡ height_of m q

-- A present tile that the command doesn't make stale keeps the sinks among its points.
abbrev pub FreshSinksStay : Type 0
FreshSinksStay = (capacity : ℕ) (m : Mosaic) (c : Command) (new : Mosaic) (p : Corner) (q : Point) → IsMosaic m → effect capacity m c ≡ Ok new →
    Contains (corners_of m) p → IsFalse (goes_stale m c p) → IsTrue (holds m.side p q) → is_sink new q ≡ is_sink m q

-- A present tile that the command doesn't make stale keeps its block, and a labelling of it stays valid.
abbrev pub FreshBlocksStay : Type 0
FreshBlocksStay = (capacity : ℕ) (m : Mosaic) (c : Command) (new : Mosaic) (p : Corner) (b : Block) → IsMosaic m → effect capacity m c ≡ Ok new →
    Contains (corners_of m) p → IsFalse (goes_stale m c p) → IsBlockOf m p b → IsBlockOf new p b

-- A patch has something to fill exactly if some point of its box is void.
abbrev pub BoxesHaveVoidPoints : Type 0
BoxesHaveVoidPoints = (m : Mosaic) (from to : Point) → IsMosaic m →
    IsTrue (has_void m from to) ↔ ((p : Point) × IsTrue (is_in_box from to p) × IsTrue (is_void_at m p))
