use Rattle.std.proofs.Common.{Result, length}
use Rattle.serving.specs.Outputs.{Stream}
use Rattle.serving.specs.Writing.{WritesAll}
use Rattle.serving.specs.declared.output.OutputFault.{OutputFault}
use Rattle.serving.proofs.output.write_rest.Given as goal

-- What the writes of the rest do to the output, the writes of the whole do.
abbrev pub invariant-loop-rest : goal.invariant-loop-rest
invariant-loop-rest g l =
    (r : Result (Unit {0}) OutputFault) (s : Stream) → WritesAll (g.O.Output.stream l.output) s r l.rest → WritesAll (g.O.Output.stream l.initial.output) s r l.initial.rest

abbrev pub decreases-loop-rest : goal.decreases-loop-rest
decreases-loop-rest g l = length l.rest
