-- The height of a point by the seam rule. Tiles that share an edge may have different samples there (defined by this
-- product).
use Rattle.std.specs.Prelude.{ℕ, ℤ, Bool, false, not, if◌then◌else◌, List, [], ◌∷◌, map, filter, slice_index_or}
use Rattle.std.specs.Ordering.{int_eq}
use Rattle.std.specs.List.{list_any}
use Rattle.lattice.specs.declared.point.Point.{Point}
use Rattle.lattice.specs.declared.height.Height.{Height}
use Rattle.lattice.specs.declared.height.Height.TheVariants.{Outside, Void, At}
use Rattle.lattice.specs.Lattice.{holds, index_of}
use Rattle.lattice.specs.Mosaic.{Tile, Mosaic, void, is_void}

-- the sample of a point in a tile that has it
abbrev pub sample_at : ℕ → Tile → Point → ℤ
sample_at n t p = slice_index_or t.samples (index_of n t.corner p) void

-- the samples of a point in the present tiles that have it, in the order of tiles
abbrev pub samples_at : Mosaic → Point → List ℤ
samples_at m p = map (λ t. sample_at m.side t p) (filter (λ t. holds m.side t.corner p) m.tiles)

-- the first sample that isn't void
abbrev pub first_height : List ℤ → Height
first_height [] = Void
first_height (s ∷ later) = if is_void s then first_height later else At s

-- outside if no present tile has the point; else the first sample that isn't void; else void
abbrev pub by_seam_rule : List ℤ → Height
by_seam_rule [] = Outside
by_seam_rule (s ∷ later) = first_height (s ∷ later)

abbrev pub height_of : Mosaic → Point → Height
height_of m p = by_seam_rule (samples_at m p)

-- two of the samples differ; a void counts as a sample
abbrev pub differ : List ℤ → Bool
differ [] = false
differ (s ∷ later) = list_any (λ other. not (int_eq s other)) later

-- Two present tiles have the point, with different samples.
abbrev pub disagrees : Mosaic → Point → Bool
disagrees m p = differ (samples_at m p)
