-- How an edit changes a mosaic, and which tiles it makes stale (defined by this product).
use Rattle.std.specs.Prelude.{◌≡◌, ℕ, ◌*◌, ◌<◌, ℤ, Bool, ◌&&◌, if◌then◌else◌, IsTrue, IfSome, List, [], ◌∷◌, map, length, All, AllPairs, IsFalse, Contains}
use Rattle.std.specs.List.{list_any}
use Rattle.lattice.specs.Corners.{Corner, same_corner}
use Rattle.lattice.specs.declared.point.Point.{Point}
use Rattle.lattice.specs.Ground.{same_point}
use Rattle.lattice.specs.Height.{height_of}
use Rattle.lattice.specs.Lattice.{holds}
use Rattle.lattice.specs.declared.height.Height.TheVariants.{At}
use Rattle.lattice.specs.Mosaic.{Tile, Mosaic, AreSinks}
use Rattle.hgt.specs.Bytes.{samples_in}
use Rattle.catalogue.specs.Tiles.{added, without, with_sinks, is_listed}
use Rattle.edits.specs.declared.command.Command.{Command}
use Rattle.edits.specs.declared.command.Command.TheVariants as command
use Rattle.edits.specs.declared.edit.Edit.{Edit}
use Rattle.edits.specs.declared.edit.Edit.TheVariants.{Add, Drop, Heights, Voids, Sink, Unsink}
use Rattle.edits.specs.declared.edit.NewHeight.{NewHeight}
use Rattle.edits.specs.Effect.{edited, patched, is_box, is_height, has_void_from}
use Rattle.edits.specs.Sinks.{with_point, without_point}
use Rattle.edits.specs.Touched.{are_neighbours}

-- the mosaic with this height at the point, in every present tile with the point
abbrev pub with_height : Point → ℤ → Mosaic → Mosaic
with_height p h m = edited (λ q s. if same_point q p then h else s) m

-- the mosaic with these new heights, one after another
abbrev pub with_heights : List NewHeight → Mosaic → Mosaic
with_heights [] m = m
with_heights (h ∷ later) m = with_heights later (with_height h.point h.metres m)

-- Before each point gets its new height, one after another, it has the old height named here.
abbrev pub AreEarlier : List NewHeight → Mosaic → Type 0
AreEarlier [] m = Unit {0}
AreEarlier (h ∷ later) m = (height_of m h.point ≡ At h.was) × AreEarlier later (with_height h.point h.metres m)

abbrev pub edit_made : Edit → Mosaic → Mosaic
edit_made (Add c bytes) m = added (record { corner = c; samples = samples_in bytes.now }) m
edit_made (Drop c) m = without c m
edit_made (Heights heights) m = with_heights heights.items m
edit_made (Voids from to h tiles) m = patched from to h m
edit_made (Sink p h) m = with_sinks (with_point p m.sinks) m
edit_made (Unsink p h) m = with_sinks (without_point p m.sinks) m

abbrev pub points_of : List NewHeight → List Point
points_of heights = map (λ h. h.point) heights

-- The edit is of the command's kind, for the same tile or points.
abbrev pub IsEditOf : Command → Edit → Type 0
IsEditOf (command.Import c bytes) (Add d own) = (c ≡ d) × (bytes ≡ own.now)
IsEditOf (command.Remove c) (Drop d) = c ≡ d
IsEditOf (command.Patch from to h) (Voids first last height tiles) = (from ≡ first) × (to ≡ last) × (h ≡ height)
IsEditOf (command.Burn depth points) (Heights heights) = points_of heights.items ≡ points.items
IsEditOf (command.Wall h points) (Heights heights) = points_of heights.items ≡ points.items
IsEditOf (command.Sink p) (Sink q h) = p ≡ q
IsEditOf (command.Unsink p) (Unsink q h) = p ≡ q
IsEditOf c edit = ⊥

-- All are present tiles, none twice.
pub record ArePresent (corners tiles : List Corner) : Type 0 where
  pub present : All (Contains corners) tiles
  pub once : AllPairs (λ c d. IsFalse (same_corner c d)) tiles

-- All are present tiles, none twice, and at least one.
pub record AreTiles (corners tiles : List Corner) : Type 0 where
  pub some : 0 < length tiles
  pub are : ArePresent corners tiles

-- the tiles of the mosaic with a void point in the box
abbrev pub AreVoidTiles : Mosaic → Point → Point → List Corner → Type 0
AreVoidTiles m from to tiles = (t : Tile) → Contains m.tiles t → is_listed t.corner tiles ≡ has_void_from m from to t.corner 0 t.samples

-- The edit is possible for tiles of this side, with these corners present and these sinks.
abbrev pub FitsIn : ℕ → List Corner → List Point → Edit → Type 0
FitsIn n corners sinks (Add c bytes) = (¬ Contains corners c) × (length bytes.now ≡ 2 * (n * n))
FitsIn n corners sinks (Drop c) = Contains corners c
FitsIn n corners sinks (Heights heights) = Unit {0}
FitsIn n corners sinks (Voids from to h tiles) = IsTrue (is_height h) × IsTrue (is_box n from to) × AreTiles corners tiles.items
FitsIn n corners sinks (Sink p h) = AreSinks n (with_point p sinks)
FitsIn n corners sinks (Unsink p h) = Unit {0}

-- The edit adds no tile.
abbrev pub AddsNone : Edit → Type 0
AddsNone (Add c bytes) = ⊥
AddsNone edit = Unit {0}

-- If the edit adds a tile, there is room for it.
abbrev pub HasRoom : ℕ → List Corner → Edit → Type 0
HasRoom capacity corners (Add c bytes) = length corners < capacity
HasRoom capacity corners edit = Unit {0}

-- An edit of voids names exactly the tiles with void points in the box.
abbrev pub FindsVoids : Mosaic → Edit → Type 0
FindsVoids m (Voids from to h tiles) = AreVoidTiles m from to tiles.items
FindsVoids m edit = Unit {0}

-- An edit of heights or of a sink names the points' present heights.
abbrev pub TellsHeights : Mosaic → Edit → Type 0
TellsHeights m (Heights heights) = AreEarlier heights.items m
TellsHeights m (Sink p h) = height_of m p ≡ At h
TellsHeights m (Unsink p h) = IfSome h (λ h. height_of m p ≡ At h)
TellsHeights m edit = Unit {0}

-- The tile has one of the points.
abbrev pub holds_any : ℕ → List NewHeight → Corner → Bool
holds_any n heights c = list_any (λ h. holds n c h.point) heights

-- The edit makes the corner's tile stale: it changes that tile or a neighbour.
abbrev pub goes_stale_by : ℕ → List Corner → Edit → Corner → Bool
goes_stale_by n corners (Add c bytes) p = are_neighbours c p
goes_stale_by n corners (Drop c) p = are_neighbours c p
goes_stale_by n corners (Heights heights) p = list_any (λ c. holds_any n heights.items c && are_neighbours c p) corners
goes_stale_by n corners (Voids from to h tiles) p = list_any (λ c. are_neighbours c p) tiles.items
goes_stale_by n corners (Sink q h) p = list_any (λ c. holds n c q && are_neighbours c p) corners
goes_stale_by n corners (Unsink q h) p = list_any (λ c. holds n c q && are_neighbours c p) corners
