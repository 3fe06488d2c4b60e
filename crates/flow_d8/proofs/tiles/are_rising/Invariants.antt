use Rattle.flow_d8.proofs.Prelude.{Corner, IsBefore, ℕ, get_or, ◌+◌, ◌<◌}
use Rattle.flow_d8.proofs.tiles.are_rising.Given as goal

abbrev pub invariant-loop-i : goal.invariant-loop-i
invariant-loop-i l = (k : ℕ) (d : Corner) → k + 1 < l.i → IsBefore (get_or l.corners k d) (get_or l.corners (k + 1) d)
