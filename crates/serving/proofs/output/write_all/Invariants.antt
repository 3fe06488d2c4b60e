use Rattle.std.proofs.Common.{◌≡◌, ◌≤◌, take, length, ◌-◌}
use Rattle.std.specs.Io.KnownBytes.{Appends}
use Rattle.serving.proofs.output.write_all.Given as goal

abbrev pub invariant-loop-at : goal.invariant-loop-at
invariant-loop-at g l = record {
  within : l.at ≤ length l.bytes;
  written : Appends (g.O.Output.stream l.fn.output).contents (g.O.Output.stream l.output).contents (take l.at l.bytes);
  none : (g.O.Output.stream l.output).failures ≡ (g.O.Output.stream l.fn.output).failures;
}

abbrev pub decreases-loop-at : goal.decreases-loop-at
decreases-loop-at g l = length l.bytes - l.at
