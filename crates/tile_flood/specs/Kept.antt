-- The bytes of a stored labelling: its levels and its labels. The definitions are this product's own.
use Rattle.std.specs.Prelude.{ℕ, ◌+◌, ◌*◌, ℤ, pos, ◌-ℤ◌, nat_lt, if◌then◌else◌, List, [], ◌∷◌, map}
use Rattle.lattice.specs.Block.{Block, IsBlockOf}
use Rattle.lattice.specs.Corners.{Corner}
use Rattle.lattice.specs.Mosaic.{Mosaic}
use Rattle.labelling.specs.Labelling.{IsLabelling}

-- the labels in the bytes: 16-bit numbers, the least significant byte first
abbrev pub labels_in : List ℕ → List ℕ
labels_in (low ∷ high ∷ rest) = (low + 256 * high) ∷ labels_in rest
labels_in _ = []

-- a 16-bit number as a signed one: from 32768 on it is less by 65536
abbrev pub signed : ℕ → ℤ
signed n = if nat_lt n 32768 then pos n else pos n -ℤ pos 65536

-- the levels in the bytes
abbrev pub levels_in : List ℕ → List ℤ
levels_in bytes = map signed (labels_in bytes)

-- these bytes are the levels and labels of a valid labelling of the corner's tile
pub record AreKeptOf (m : Mosaic) (c : Corner) (levels labels : List ℕ) : Type 0 where
  pub block : Block
  pub ground : IsBlockOf m c block
  pub labelling : IsLabelling block (levels_in levels) (labels_in labels)
