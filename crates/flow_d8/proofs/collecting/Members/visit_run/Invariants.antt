use Rattle.flow_d8.proofs.Prelude.{Dir, ℕ, ◌<◌, ◌≤◌}
use Rattle.flow_d8.specs.Members.{Grows, IsSettledBeside}
use Rattle.flow_d8.proofs.collecting.Members.visit_run.Given as goal

abbrev pub invariant-loop-k : goal.invariant-loop-k
invariant-loop-k l = record {
  grows : Grows l.known l.fn.self l.self;
  settled : (j : ℕ) (d : Dir) → l.first ≤ j → j < l.k → IsSettledBeside l.known l.self j d;
}
