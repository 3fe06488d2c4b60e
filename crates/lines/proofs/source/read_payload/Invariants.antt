use Rattle.std.proofs.Common.{◌≤◌, ◌<◌, ◌-◌, vec_len, vec_capacity}
use Rattle.lines.specs.Ahead.{IsRest, Taken, weight}
use Rattle.lines.proofs.source.read_payload.Given as goal

abbrev pub invariant-loop-ahead : goal.invariant-loop-ahead
invariant-loop-ahead g l = record {
  within : vec_len l.payload ≤ l.len;
  room : l.len ≤ vec_capacity l.payload;
  rest : 0 < vec_len l.payload → IsRest l.ahead;
  spent : weight l.ahead ≤ weight l.fn.ahead;
  taken : Taken l.fn.ahead (g.R.Read.remaining l.fn.reader) l.ahead (g.R.Read.remaining l.reader) l.payload.items;
}

abbrev pub decreases-loop-ahead : goal.decreases-loop-ahead
decreases-loop-ahead g l = l.len - vec_len l.payload
