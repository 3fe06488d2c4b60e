-- The effect of an edit on a tree before its commit (defined by this product).
use Rattle.std.specs.Prelude.{◌≡◌, ◌⊎◌, ◌≤◌, ◌<◌, ◌+◌, ◌*◌, ℕ, ℤ, Bool, true, IsTrue, List, length, All, Contains, Result, OnOk, IfErr, false, None, if◌then◌else◌}
use Rattle.disk.specs.declared.disk.Disk.{Ghosts}
use Rattle.page_codec.specs.Sizes.{pages_of}
use Rattle.page_codec.specs.declared.version.Version.{Version}
use Rattle.page_codec.specs.declared.version.Version.TheVariants.{One, Two}
use Rattle.lattice.specs.Corners.{Corner, is_corner}
use Rattle.lattice.specs.Mosaic.{Mosaic}
use Rattle.lattice.specs.declared.point.Point.{Point}
use Rattle.lattice.specs.declared.refusal.Refusal.{Refusal}
use Rattle.lattice.specs.declared.refusal.Refusal.TheVariants.{Device, NoMemory}
use Rattle.edits.specs.declared.edit.Edit.{Edit}
use Rattle.edits.specs.declared.edit.Edit.TheVariants as edit
use Rattle.edits.specs.Edits.{edit_made, points_of}
use Rattle.cow_tree.specs.Stored.{IsPage, Stored, StoredTile, mosaic_of_tiles}
use Rattle.cow_tree.specs.Trees.{disk_of, root_of, has_begun, has_failed, corners_of, sinks_of, records_due, HasStaged, IsAt, staged_in}
use Rattle.cow_tree.specs.declared.tree.Tree.{Tree}
use Rattle.cow_tree.specs.Uncommitted.{CommitsNothing, MakesNoCall}
use Rattle.stored_mosaic.specs.PagesMet.{pages_met, pages_with}
use Rattle.stored_mosaic.specs.Staling.{ChangesTiles}
use Rattle.stored_mosaic.specs.Underway.{box_meets, IsUnderway, Settles}

-- The stored tile has enough whole pages for its heights.
pub record IsFilled (n : ℕ) (t : StoredTile) : Type 0 where
  pub pages : All IsPage t.heights
  pub enough : 2 * (n * n) ≤ 4096 * length t.heights

-- these stored tiles are the tiles of the mosaic
pub record AreTilesOf (n : ℕ) (tiles : List StoredTile) (m : Mosaic) : Type 0 where
  pub mosaic : m ≡ mosaic_of_tiles n m.sinks tiles
  pub filled : All (IsFilled n) tiles

-- the writes so far, plus the one that begins a commit if none has begun
abbrev pub writes_begun : {D : Type 0} (g : Ghosts D) → Tree D g → ℕ
writes_begun g tree = g.writes (disk_of tree) + (if has_begun tree then 0 else 1)

-- the most index pages due for this many written pages, by the store's version
abbrev pub index_pages_due : Version → ℕ → ℕ
index_pages_due One pages = 0
index_pages_due Two pages = pages

-- Memory is reserved to stage pages of some tiles, with at most this many records to write. No call of the disk was
-- made.
pub record Prepares {D T : Type 0} (g : Ghosts D) (records : ℕ) (old new : Tree D g) (result : Result T Refusal) : Type 0 where
  pub refused : IfErr result (λ r. r ≡ NoMemory)
  pub changes : ChangesTiles g (λ tiles. tiles) records old new
  pub still_staged : (c : Corner) → HasStaged old c → HasStaged new c

-- The first pages of the corner's tile that the edit affects can be staged without more memory.
abbrev pub IsPrepared : {D : Type 0} {g : Ghosts D} → (Corner → ℕ → Bool) → ℕ → Tree D g → Corner → Type 0
IsPrepared meets pages tree c = (i : ℕ) → i < pages → meets c i ≡ true → HasStaged tree c

-- At most this many pages of present tiles were staged, with at most this many records, from reserved memory. Nothing
-- else was done.
pub record StagesPages {D T : Type 0} (g : Ghosts D) (pages records : ℕ) (old new : Tree D g) (result : Result T Refusal) : Type 0 where
  pub uncommitted : CommitsNothing g old new result
  pub corners : corners_of new ≡ corners_of old
  pub sinks : sinks_of new ≡ sinks_of old
  pub still_staged : (c : Corner) → HasStaged old c → HasStaged new c
  pub writes : g.writes (disk_of new) ≤ writes_begun g old + pages
  pub begun : OnOk result (writes_begun g new ≤ writes_begun g old + pages)
  pub due : OnOk result (records_due new ≤ records_due old + (records + index_pages_due (root_of old).version pages))

-- At most this many pages were staged. On an honest disk, if the edit fits, more of it is made, and these pages of
-- heights are edited.
pub record MakesPages {D T : Type 0} (g : Ghosts D) (n : ℕ) (made : Mosaic → Point → ℤ → ℤ) (fits : Mosaic → Type 0) (here : Corner → ℕ → Type 0) (count records : ℕ)
    (old new : Tree D g) (result : Result T Refusal) : Type 0 where
  pub pages : StagesPages g count records old new result
  pub set : g.honest (disk_of new) → (s : Stored) (m : Mosaic) → IsAt g old s → fits m → IsUnderway n (made m) m (staged_in g old)
      → OnOk result (Settles n (made m) m here (staged_in g old) (staged_in g new))

-- The call was refused with Device, or with NoMemory before any write.
abbrev pub IsRefusedEarly : {D T : Type 0} (g : Ghosts D) → Tree D g → Tree D g → Result T Refusal → Type 0
IsRefusedEarly g old new result = IfErr result (λ r. (r ≡ Device) ⊎ ((r ≡ NoMemory) × (has_failed new ≡ false) × (g.writes (disk_of new) ≡ g.writes (disk_of old))))

-- the most writes of staging an edit. New heights write at most each page with one of the points, voids each page of
-- their tiles with a row of the box; with each page goes its tile's record. A removal and a sink write nothing.
abbrev pub StagesFew : {D T : Type 0} (g : Ghosts D) → Edit → Tree D g → Tree D g → Result T Refusal → Type 0
StagesFew g (edit.Add c bytes) old new result = Unit {0}
StagesFew g (edit.Drop c) old new result = Unit {0}
StagesFew g (edit.Heights heights) old new result =
    let pages : ℕ = pages_with (root_of old).side (corners_of old) (points_of heights.items) in StagesPages g pages pages old new result × (pages ≤ 4 * length heights.items)
StagesFew g (edit.Voids from to h tiles) old new result =
    let pages : ℕ = pages_met (box_meets (root_of old).side (record { from = from; to = to; height = h }) tiles.items) (pages_of (root_of old).side) (corners_of old) in StagesPages g pages pages old new result
StagesFew g (edit.Sink p h) old new result = MakesNoCall old new × (records_due new ≡ records_due old)
StagesFew g (edit.Unsink p h) old new result = MakesNoCall old new × (records_due new ≡ records_due old)

-- The edit is one that callers can give: its corner is in range, and its bytes have eight bits.
abbrev pub IsGiven : Edit → Type 0
IsGiven (edit.Add c bytes) = IsTrue (is_corner c) × All (λ b. b < 256) bytes.now
IsGiven _ = Unit {0}

-- The edit adds the tile at the corner.
abbrev pub ComesIn : Edit → Corner → Type 0
ComesIn (edit.Add c bytes) d = c ≡ d
ComesIn _ d = ⊥

-- Each tile keeps the planes that it kept before; an added tile keeps none.
abbrev pub KeepsBut : Edit → List StoredTile → List StoredTile → Type 0
KeepsBut made was now = (t : StoredTile) → Contains now t
    → (ComesIn made t.corner × (t.kept ≡ None)) ⊎ ((u : StoredTile) × (Contains was u × ((u.corner ≡ t.corner) × (u.kept ≡ t.kept))))

-- The tree has staged the effect of the edit on the mosaic.
pub record IsMade {D : Type 0} (g : Ghosts D) (made : Edit) (m : Mosaic) (old new : Tree D g) : Type 0 where
  pub tiles : AreTilesOf (root_of old).side (staged_in g new) (edit_made made m)
  pub sinks : sinks_of new ≡ (edit_made made m).sinks
  pub kept : KeepsBut made (staged_in g old) (staged_in g new)
