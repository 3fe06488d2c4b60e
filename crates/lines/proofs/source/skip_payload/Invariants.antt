use Rattle.std.proofs.Common.{◌≡◌, ◌≤◌, ◌<◌, ◌+◌, ℕ, List, length}
use Rattle.lines.specs.Ahead.{IsRest, Taken, weight}
use Rattle.lines.proofs.source.skip_payload.Given as goal

abbrev pub invariant-loop-missing : goal.invariant-loop-missing
invariant-loop-missing g l = (bytes : List ℕ) × (length bytes + l.missing ≡ l.len) × (weight l.ahead ≤ weight l.fn.ahead) × (l.missing < l.len → IsRest l.ahead)
    × Taken l.fn.ahead (g.R.Read.remaining l.fn.reader) l.ahead (g.R.Read.remaining l.reader) bytes

abbrev pub decreases-loop-missing : goal.decreases-loop-missing
decreases-loop-missing g l = l.missing
