-- Heights staged page by page, for an edit that sets samples (defined by this product).
use Rattle.std.specs.Prelude.{◌≡◌, ◌⊎◌, ℕ, ◌+◌, ◌-◌, ◌*◌, ◌/◌, ◌<◌, ◌≤◌, ℤ, pos, int_le, Bool, false, ◌&&◌, ◌||◌, not, nat_lt, if◌then◌else◌, IsTrue, List, [], ◌∷◌, length, All, Contains, slice_index, slice_index_or}
use Rattle.std.specs.List.{AllZip}
use Rattle.lattice.specs.Block.{is_rim, rim_number}
use Rattle.lattice.specs.Corners.{Corner}
use Rattle.lattice.specs.Ground.{same_point}
use Rattle.lattice.specs.Lattice.{point_of}
use Rattle.lattice.specs.Mosaic.{Tile, Mosaic, IsMosaic, is_void}
use Rattle.lattice.specs.declared.point.Point.{Point}
use Rattle.hgt.specs.Bytes.{sample_of}
use Rattle.catalogue.specs.Tiles.{is_listed}
use Rattle.edits.specs.Effect.{is_in_box, is_void_at}
use Rattle.edits.specs.declared.edit.NewHeight.{NewHeight}
use Rattle.cow_tree.specs.Stored.{IsPage, StoredTile, samples_of_plane}
use Rattle.stored_mosaic.specs.Staling.{keepers}
use Rattle.stored_mosaic.specs.declared.rims.RimVoids.{RimVoids}
use Rattle.stored_mosaic.specs.declared.voids.Patch.{Patch}

-- sample j of a page of heights
abbrev pub page_sample : List ℕ → ℕ → ℤ
page_sample page j = sample_of (slice_index page (2 * j)) (slice_index page (2 * j + 1))

-- Page i of the corner's heights after the edit: each sample is changed by a function of its point and old value.
pub record IsEdited (n : ℕ) (edit : Point → ℤ → ℤ) (c : Corner) (i : ℕ) (was now : List ℕ) : Type 0 where
  pub page : IsPage was → IsPage now
  pub samples : (j : ℕ) → j < 2048 → 2048 * i + j < n * n → page_sample now j ≡ edit (point_of n c (2048 * i + j)) (page_sample was j)

-- the sample of a stored tile with this index
abbrev pub stored_sample : ℕ → StoredTile → ℕ → ℤ
stored_sample n t e = slice_index_or (samples_of_plane n t.heights) e (pos 0)

-- Each sample of the stored tile is that of the mosaic's tile, or the edited one.
pub record IsPartly (n : ℕ) (edit : Point → ℤ → ℤ) (t : Tile) (stored : StoredTile) : Type 0 where
  pub corner : stored.corner ≡ t.corner
  pub pages : All IsPage stored.heights
  pub enough : 2 * (n * n) ≤ 4096 * length stored.heights
  pub samples : (e : ℕ) → e < n * n
      → (stored_sample n stored e ≡ slice_index_or t.samples e (pos 0)) ⊎ (stored_sample n stored e ≡ edit (point_of n t.corner e) (slice_index_or t.samples e (pos 0)))

-- Each stored tile is partly edited in this way.
pub record IsUnderway (n : ℕ) (edit : Point → ℤ → ℤ) (m : Mosaic) (stored : List StoredTile) : Type 0 where
  pub valid : IsMosaic m
  pub side : m.side ≡ n
  pub tiles : AllZip (IsPartly n edit) m.tiles stored

-- The samples on page i of the corner's heights are edited.
abbrev pub IsSettled : (n : ℕ) (edit : Point → ℤ → ℤ) (tiles : List StoredTile) (c : Corner) (i : ℕ) → Type 0
IsSettled n edit tiles c i = (t : StoredTile) → Contains tiles t → t.corner ≡ c → (e : ℕ) → e < n * n → e / 2048 ≡ i
    → edit (point_of n c e) (stored_sample n t e) ≡ stored_sample n t e

-- The edit changes no sample on page i of the corner's heights.
abbrev pub LeavesPage : ℕ → (Point → ℤ → ℤ) → Corner → ℕ → Type 0
LeavesPage n edit c i = (e : ℕ) → e < n * n → e / 2048 ≡ i → (s : ℤ) → edit (point_of n c e) s ≡ s

-- More of the edit is made, and kept planes stay.
pub record Advances (n : ℕ) (edit : Point → ℤ → ℤ) (m : Mosaic) (was now : List StoredTile) : Type 0 where
  pub underway : IsUnderway n edit m now
  pub kept : keepers now ≡ keepers was
  pub settled : (c : Corner) (i : ℕ) → IsSettled n edit was c i → IsSettled n edit now c i

-- More of the edit is made, kept planes stay, and these pages are edited.
abbrev pub Settles : ℕ → (Point → ℤ → ℤ) → Mosaic → (Corner → ℕ → Type 0) → List StoredTile → List StoredTile → Type 0
Settles n edit m here was now = Advances n edit m was now × ((c : Corner) (i : ℕ) → here c i → IsSettled n edit now c i)

-- ---- new heights

-- a sample after new heights, set one after another
abbrev pub heightened : List NewHeight → Point → ℤ → ℤ
heightened [] p s = s
heightened (h ∷ later) p s = heightened later p (if same_point p h.point then h.metres else s)

-- ---- voids of a box

-- a sample after a patch
abbrev pub filled : Mosaic → Patch → Point → ℤ → ℤ
filled m patch p s = if is_in_box patch.from patch.to p && is_void_at m p then patch.height else s

-- the index of the last sample in page i of a tile's heights
abbrev pub last_in_page : ℕ → ℕ → ℕ
last_in_page n i = if nat_lt (2048 * (i + 1)) (n * n) then 2048 * (i + 1) - 1 else n * n - 1

-- Page i of the corner's heights isn't wholly south or wholly north of the box; otherwise it has no point of the box.
abbrev pub has_rows : ℕ → Corner → ℕ → Patch → Bool
has_rows n c i patch = int_le patch.from.y (point_of n c (2048 * i)).y && int_le (point_of n c (last_in_page n i)).y patch.to.y

-- Page i has a row of the box, in a tile at one of these corners.
abbrev pub box_meets : ℕ → Patch → List Corner → Corner → ℕ → Bool
box_meets n patch corners c i = is_listed c corners && has_rows n c i patch

-- These are the void points of the box on the rim of the corner's tile, by rim number.
pub record AreRimVoids (m : Mosaic) (patch : Patch) (rim : RimVoids) : Type 0 where
  pub each : (e : ℕ) → e < m.side * m.side → IsTrue (is_rim m.side e) → slice_index_or rim.voids.items (rim_number m.side e) false
      ≡ (is_in_box patch.from patch.to (point_of m.side rim.corner e) && is_void_at m (point_of m.side rim.corner e))

-- whether the point of a void sample of the box is void by the seam rule, from the voids of the rim
abbrev pub is_void_by_rim : ℕ → RimVoids → ℕ → Bool
is_void_by_rim n rim e = not (is_rim n e) || slice_index_or rim.voids.items (rim_number n e) false

-- whether the patch fills the tile's sample
abbrev pub is_due : ℕ → RimVoids → Patch → ℕ → ℤ → Bool
is_due n rim patch e s = (is_void s && nat_lt e (n * n)) && (is_in_box patch.from patch.to (point_of n rim.corner e) && is_void_by_rim n rim e)

-- The page of the corner's heights is that of the mosaic's tile, or the edited one.
pub record IsPageOf (n : ℕ) (edit : Point → ℤ → ℤ) (m : Mosaic) (c : Corner) (i : ℕ) (page : List ℕ) : Type 0 where
  pub tile : Tile
  pub there : Contains m.tiles tile
  pub corner : tile.corner ≡ c
  pub samples : (j : ℕ) → j < 2048 → 2048 * i + j < n * n
      → (page_sample page j ≡ slice_index_or tile.samples (2048 * i + j) (pos 0)) ⊎ (page_sample page j ≡ edit (point_of n c (2048 * i + j)) (slice_index_or tile.samples (2048 * i + j) (pos 0)))
