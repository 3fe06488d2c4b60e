use Rattle.flow_d8.proofs.Prelude.{ArePaddedTo, List, filled_of, get_or, length, no_corner, ◌≡◌}
use Rattle.lattice.specs.declared.point.Point.{Point}
use Rattle.flow_d8.proofs.padding.padded_levels.Given as goal

abbrev pub invariant-loop-place : goal.invariant-loop-place
invariant-loop-place l = record {
  whole : length l.padded.items ≡ l.place;
  padded : (sinks : List Point) → ArePaddedTo (filled_of l.tiles l.levels sinks) (get_or l.tiles.corners l.tile no_corner) l.place l.padded.items;
}
