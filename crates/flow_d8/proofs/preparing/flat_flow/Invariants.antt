use Rattle.flow_d8.proofs.Prelude.{Dir, IsEndBeside, order_of, ◌<◌}
use Rattle.flow_d8.proofs.preparing.flat_flow.Given as goal

abbrev pub invariant-loop-i : goal.invariant-loop-i
invariant-loop-i l = (d : Dir) → order_of d < l.i → IsEndBeside l.levels l.around l.width l.k d → ⊥
