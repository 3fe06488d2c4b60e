-- The indices of a tile's sinks, for contracts and loops that gather them.
use Rattle.std.specs.Prelude.{ℕ, List, map, filter}
use Rattle.lattice.specs.Corners.{Corner}
use Rattle.lattice.specs.Lattice.{index_of, holds}
use Rattle.lattice.specs.declared.point.Point.{Point}

-- the indices of those points that are in the corner's tile
abbrev pub sinks_in : ℕ → Corner → List Point → List ℕ
sinks_in n c sinks = map (index_of n c) (filter (holds n c) sinks)
