use Rattle.flow_d8.proofs.Prelude.{Dir, order_of, place_by, slice_index_or, void, ◌<◌, ◌≡◌}
use Rattle.flow_d8.proofs.local_flow.gap.Given as goal

abbrev pub invariant-loop-i : goal.invariant-loop-i
invariant-loop-i l = (d : Dir) → order_of d < l.i → slice_index_or l.levels (place_by l.width l.k d) void ≡ void → ⊥
