-- The record of a plane and its index pages: page numbers in order (defined by this product).
use Rattle.std.specs.Prelude.{◌≡◌, ℕ, ◌<◌, ◌^◌, ◌*◌, List, All, length, take, drop}
use Rattle.std.specs.List.{flat_map}
use Rattle.page_codec.specs.Numbers.{u32_bytes, padded}

-- The list has this many page numbers of 32 bits.
pub record IsRecord (count : ℕ) (pages : List ℕ) : Type 0 where
  pub len : length pages ≡ count
  pub each : All (λ p. p < 2 ^ 32) pages

-- the only spelling of a record, and of an index page
unfoldable pub record_bytes : List ℕ → List ℕ
record_bytes pages = padded 4096 (flat_map u32_bytes pages)

-- the pages of a plane that its index page with this number lists
abbrev pub part_of : ℕ → List ℕ → List ℕ
part_of t pages = take 1024 (drop (1024 * t) pages)
