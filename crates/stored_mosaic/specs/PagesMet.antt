-- The number of pages of heights that an edit affects (defined by this product).
use Rattle.std.specs.Prelude.{◌≡◌, ℕ, zero, suc, ◌+◌, ◌*◌, ◌/◌, pos, Bool, ◌&&◌, nat_eq, if◌then◌else◌, List, [], ◌∷◌, Option, Some, None}
use Rattle.std.specs.List.{list_any}
use Rattle.lattice.specs.Corners.{Corner}
use Rattle.lattice.specs.Lattice.{holds, index_of}
use Rattle.lattice.specs.declared.point.Point.{Point}
use Rattle.page_codec.specs.declared.version.Version.{Version}
use Rattle.page_codec.specs.declared.version.Version.TheVariants.{One, Two}
use Rattle.page_codec.specs.Sizes.{pages_of}
use Rattle.edits.specs.declared.command.Command.{Command}
use Rattle.edits.specs.declared.command.Command.TheVariants.{Burn, Wall}

-- how many of the first pages of a tile pass the test
abbrev pub pages_met_in : (ℕ → Bool) → ℕ → ℕ
pages_met_in meets zero = 0
pages_met_in meets (suc i) = pages_met_in meets i + (if meets i then 1 else 0)

-- how many of the first pages of the tiles at these corners pass the test
abbrev pub pages_met : (Corner → ℕ → Bool) → ℕ → List Corner → ℕ
pages_met meets pages [] = 0
pages_met meets pages (c ∷ rest) = pages_met_in (meets c) pages + pages_met meets pages rest

-- The point's sample in the corner's tile is on page i of its heights.
abbrev pub is_in_page : ℕ → Corner → ℕ → Point → Bool
is_in_page n c i p = holds n c p && nat_eq (index_of n c p / 2048) i

-- The sample of one of the points is on page i of the heights.
abbrev pub has_point : ℕ → List Point → Corner → ℕ → Bool
has_point n points c i = list_any (is_in_page n c i) points

-- how many pages of heights have one of the points, in the tiles at these corners
abbrev pub pages_with : ℕ → List Corner → List Point → ℕ
pages_with n corners points = pages_met (has_point n points) (pages_of n) corners

-- the most writes of a command that stages this many pages: for each page the page, its tile's record and, in the
-- second version, an index page; then a root and two gates
abbrev pub page_writes : Version → ℕ → ℕ
page_writes One pages = 2 * pages + 3
page_writes Two pages = 3 * pages + 3

-- the points that a burn or a wall names
abbrev pub named_by : Command → Option (List Point)
named_by (Burn depth points) = Some points.items
named_by (Wall h points) = Some points.items
named_by _ = None

-- Four tiles of 3 x 3 samples meet at a point, and the first has one more named point. Four pages have these points. So
-- a burn of both makes at most 11 writes in the first version and 15 in the second, as many as a burn of the one.
abbrev pub TwoPointsOfAPage : Type 0
TwoPointsOfAPage =
    let around : List Corner = record { lat = pos 0; lon = pos 0 } ∷ record { lat = pos 0; lon = pos 1 } ∷ record { lat = pos 1; lon = pos 0 } ∷ record { lat = pos 1; lon = pos 1 } ∷ [] in
    let within : Point = record { y = pos 1; x = pos 1 } in
    let shared : Point = record { y = pos 2; x = pos 2 } in
    (pages_with 3 around (within ∷ shared ∷ []) ≡ 4) × (pages_with 3 around (shared ∷ []) ≡ 4)
    × (page_writes One 4 ≡ 11) × (page_writes Two 4 ≡ 15)
