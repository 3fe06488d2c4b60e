use Rattle.edits.proofs.Prelude.{IsMosaic, take, with_heights, ◌≡◌}
use Rattle.edits.proofs.applying.set_heights.Given as goal

abbrev pub invariant-loop-height : goal.invariant-loop-height
invariant-loop-height l = record {
  set : l.table ≡ with_heights (take l.height-index l.heights) l.fn.table;
  valid : IsMosaic l.table;
}
