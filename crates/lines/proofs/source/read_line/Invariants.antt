use Rattle.std.proofs.Common.{◌≡◌, ◌≤◌, ℕ, List}
use Rattle.lines.specs.Ahead.{Taken, weight}
use Rattle.lines.specs.Lines.{IsLine, kept}
use Rattle.lines.proofs.source.read_line.Given as goal

abbrev pub invariant-loop-ahead : goal.invariant-loop-ahead
invariant-loop-ahead g l = (text : List ℕ) × IsLine text × (l.line ≡ kept text) × (weight l.ahead ≤ weight l.fn.ahead)
    × Taken l.fn.ahead (g.R.Read.remaining l.fn.reader) l.ahead (g.R.Read.remaining l.reader) text

abbrev pub decreases-loop-ahead : goal.decreases-loop-ahead
decreases-loop-ahead g l = weight l.ahead
