use Rattle.std.proofs.Common.{◌≡◌, ◌≤◌, length, take}
use Rattle.table_engine.specs.TableState.{stale_among}
use Rattle.table_engine.proofs.table_engine.count_stale.Given as goal

abbrev pub invariant-loop-corner : goal.invariant-loop-corner
invariant-loop-corner l = (l.count ≡ length (stale_among (take l.corner-index l.corners) l.fresh)) × (l.count ≤ l.corner-index)
