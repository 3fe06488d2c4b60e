-- The pages that levels and labels of stale tiles had before.
use Rattle.std.specs.Prelude.{ℕ, List, [], Option, None, Some, find, if◌then◌else◌, nat_lt, slice_get}
use Rattle.lattice.specs.Corners.{Corner, same_corner}
use Rattle.page_map.specs.declared.plane.Plane.{Plane}
use Rattle.page_map.specs.declared.plane.Plane.TheVariants.{Heights, Levels, Labels}
use Rattle.cow_tree.specs.declared.past_planes.PastTile.{PastTile}

-- the pages that a plane had; those of heights aren't remembered
abbrev pub past_pages : PastTile → Plane → List ℕ
past_pages t Heights = []
past_pages t Levels = t.levels.items
past_pages t Labels = t.labels.items

-- the remembered planes of the corner's tile
abbrev pub past_tile : List PastTile → Corner → Option PastTile
past_tile tiles c = find (λ t. same_corner t.corner c) tiles

abbrev pub page_in : Option PastTile → Plane → ℕ → Option ℕ
page_in None plane i = None
page_in (Some t) plane i = slice_get (past_pages t plane) i

-- the page that page i of the corner's plane had, if it is remembered
abbrev pub past_page : List PastTile → Corner → Plane → ℕ → Option ℕ
past_page tiles c plane i = page_in (past_tile tiles c) plane i

-- the page number, if a disk of this many sectors has it
abbrev pub on_disk : ℕ → Option ℕ → Option ℕ
on_disk size None = None
on_disk size (Some p) = if nat_lt p size then Some p else None
