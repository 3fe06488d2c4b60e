-- A tile's entry in a root (defined by this product).
use Rattle.std.specs.Prelude.{ℕ, ℤ, ◌<◌, ◌^◌, IsTrue, IfSome, Option, Some, None, List, [], ◌∷◌}
use Rattle.std.specs.List.{concat}
use Rattle.lattice.specs.Corners.{Corner, is_corner}
use Rattle.page_codec.specs.declared.entry.Kept.{Kept}
use Rattle.page_codec.specs.Numbers.{i16_bytes, u32_bytes}

-- the tile's corner, the record page of its heights, and the record pages of its levels and labels if they are kept
pub record EntryValue : Type 0 where
  pub corner : Corner
  pub heights : ℕ
  pub kept : Option Kept

-- A page number fits 32 bits and isn't 0, which means none.
abbrev pub IsPage : ℕ → Type 0
IsPage p = (0 < p) × (p < 2 ^ 32)

pub record AreKept (k : Kept) : Type 0 where
  pub levels : IsPage k.levels
  pub labels : IsPage k.labels

pub record IsEntry (e : EntryValue) : Type 0 where
  pub corner : IsTrue (is_corner e.corner)
  pub heights : IsPage e.heights
  pub kept : IfSome e.kept AreKept

-- the record page of the levels; 0 if they aren't kept
abbrev pub levels_of : Option Kept → ℕ
levels_of None = 0
levels_of (Some k) = k.levels

abbrev pub labels_of : Option Kept → ℕ
labels_of None = 0
labels_of (Some k) = k.labels

-- the five fields of an entry, 16 bytes
unfoldable pub field_bytes : (lat lon : ℤ) (heights levels labels : ℕ) → List ℕ
field_bytes lat lon heights levels labels = concat (
    i16_bytes lat
    ∷ i16_bytes lon
    ∷ u32_bytes heights
    ∷ u32_bytes levels
    ∷ u32_bytes labels
    ∷ [])

-- the only spelling of an entry
abbrev pub entry_bytes : EntryValue → List ℕ
entry_bytes e = field_bytes e.corner.lat e.corner.lon e.heights (levels_of e.kept) (labels_of e.kept)
