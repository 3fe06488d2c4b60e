use Rattle.flow_d8.proofs.Prelude.{Dir, order_of, ◌<◌}
use Rattle.flow_d8.specs.Members.{Grows, IsSettledBeside}
use Rattle.flow_d8.proofs.collecting.Members.visit_around.Given as goal

abbrev pub invariant-loop-i : goal.invariant-loop-i
invariant-loop-i l = record {
  grows : Grows l.known l.fn.self l.self;
  settled : (d : Dir) → order_of d < l.i → IsSettledBeside l.known l.self l.from d;
}
