use Rattle.edits.proofs.Prelude.{IsMosaic, take, ◌≡◌}
use Rattle.edits.proofs.Placing.{placed}
use Rattle.edits.proofs.applying.set_at.Given as goal

abbrev pub invariant-loop-place : goal.invariant-loop-place
invariant-loop-place l = record {
  set : l.table ≡ placed l.sample (take l.place-index l.place-items) l.fn.table;
  valid : IsMosaic l.table;
}
