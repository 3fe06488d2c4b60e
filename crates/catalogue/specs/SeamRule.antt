-- The sample of a point in one tile.
use Rattle.std.specs.Prelude.{ℤ, if◌then◌else◌, Option, None, option_map, slice_index_or}
use Rattle.lattice.specs.Corners.{Corner}
use Rattle.lattice.specs.Lattice.{holds, index_of}
use Rattle.lattice.specs.Mosaic.{Mosaic, void, samples_of}
use Rattle.lattice.specs.declared.point.Point.{Point}

-- the sample, or none if the corner's tile isn't present or doesn't have the point
abbrev pub sample_in : Mosaic → Corner → Point → Option ℤ
sample_in m c p = if holds m.side c p then option_map (λ samples. slice_index_or samples (index_of m.side c p) void) (samples_of m c) else None
