use Rattle.edits.proofs.Prelude.{IsMosaic, filled, is_void_among, ◌≡◌}
use Rattle.edits.proofs.applying.fill_voids.Given as goal

abbrev pub invariant-loop-k : goal.invariant-loop-k
invariant-loop-k l = record {
  filled : l.table ≡ filled (is_void_among l.fn.table l.fn.from l.fn.to l.points.columns l.k) l.fn.sample l.fn.table;
  valid : IsMosaic l.table;
}
