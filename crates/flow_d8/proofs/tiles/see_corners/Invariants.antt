use Rattle.flow_d8.proofs.Prelude.{IsTrue, ℕ, no_corner, slice_index_or, ◌<◌}
use Rattle.lattice.specs.Corners.{is_corner}
use Rattle.flow_d8.proofs.tiles.see_corners.Given as goal

abbrev pub invariant-loop-i : goal.invariant-loop-i
invariant-loop-i l = (j : ℕ) → j < l.i → IsTrue (is_corner (slice_index_or l.corners j no_corner))
