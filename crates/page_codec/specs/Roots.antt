-- A root: the contents of a store at one commit (defined by this product).
use Rattle.std.specs.Prelude.{◌≡◌, ℕ, ◌<◌, ◌≤◌, ◌^◌, IsTrue, List, [], ◌∷◌, ◌++◌, All, length, take, drop, codes}
use Rattle.std.specs.List.{AllAdjacentBelow, concat, flat_map}
use Rattle.lattice.specs.Corners.{is_before}
use Rattle.lattice.specs.Limits.{most_sinks}
use Rattle.lattice.specs.Mosaic.{AreSinks}
use Rattle.lattice.specs.declared.point.Point.{Point}
use Rattle.page_codec.specs.declared.version.Version.{Version}
use Rattle.page_codec.specs.Formats.{Format, IsFormat, IsKnown, number_of}
use Rattle.page_codec.specs.Numbers.{u32_bytes, u64_bytes, zeros, padded}
use Rattle.page_codec.specs.Entries.{EntryValue, IsEntry, entry_bytes}
use Rattle.page_codec.specs.Sinks.{sink_bytes}

-- the version of its layout, the side of its tiles, its capacity in tiles, its commit number, the number of accepted
-- commands, its sinks, and the entries of its tiles
pub record RootValue : Type 0 where
  pub version : Version
  pub side : ℕ
  pub capacity : ℕ
  pub number : ℕ
  pub count : ℕ
  pub sinks : List Point
  pub entries : List EntryValue

abbrev pub format_of : RootValue → Format
format_of r = record { version = r.version; side = r.side; capacity = r.capacity }

-- the rules of a root's numbers; `tiles` and `sinks` are how many it has
pub record AreNumbers (f : Format) (tiles number count sinks : ℕ) : Type 0 where
  pub format : IsFormat f
  pub known : IsKnown f.version
  pub room : tiles ≤ f.capacity
  pub fits : number < 2 ^ 64
  pub before : count < number
  pub few : sinks ≤ most_sinks

abbrev pub EntryIsBefore : EntryValue → EntryValue → Type 0
EntryIsBefore a b = IsTrue (is_before a.corner b.corner)

-- rising latitude, then longitude, no corner twice
abbrev pub AreInOrder : List EntryValue → Type 0
AreInOrder entries = AllAdjacentBelow EntryIsBefore entries (length entries)

pub record IsRoot (r : RootValue) : Type 0 where
  pub numbers : AreNumbers (format_of r) (length r.entries) r.number r.count (length r.sinks)
  pub entries : All IsEntry r.entries
  pub in_order : AreInOrder r.entries
  pub sinks : AreSinks r.side r.sinks

-- the root of a new store of this format: its first commit, before any command
abbrev pub empty_root : Format → RootValue
empty_root f = record { version = f.version; side = f.side; capacity = f.capacity; number = 1; count = 0; sinks = []; entries = [] }

unfoldable pub magic : List ℕ
magic = codes "MOSAICST"

-- the first 64 bytes: magic, version, numbers, and 20 reserved bytes
unfoldable pub header_bytes : (f : Format) (tiles number count sinks : ℕ) → List ℕ
header_bytes f tiles number count sinks = concat (
    magic
    ∷ u32_bytes (number_of f.version)
    ∷ u32_bytes f.side
    ∷ u32_bytes f.capacity
    ∷ u32_bytes tiles
    ∷ u64_bytes number
    ∷ u64_bytes count
    ∷ u32_bytes sinks
    ∷ zeros 20
    ∷ [])

-- the only spelling of a root: entries from byte 64 on, and sinks from byte 3904 on
unfoldable pub root_bytes : RootValue → List ℕ
root_bytes r = header_bytes (format_of r) (length r.entries) r.number r.count (length r.sinks)
    ++ (padded 3840 (flat_map entry_bytes r.entries) ++ padded 192 (flat_map sink_bytes r.sinks))

-- the first test: the magic
abbrev pub HasMagic : List ℕ → Type 0
HasMagic bytes = take 8 bytes ≡ magic

abbrev pub HasVersion : ℕ → List ℕ → Type 0
HasVersion version bytes = take 4 (drop 8 bytes) ≡ u32_bytes version

-- the second test: a known version
abbrev pub HasKnownVersion : List ℕ → Type 0
HasKnownVersion bytes = (version : Version) × (IsKnown version × HasVersion (number_of version) bytes)
