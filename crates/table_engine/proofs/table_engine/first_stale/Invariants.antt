use Rattle.std.proofs.Common.{◌≡◌, [], take}
use Rattle.table_engine.specs.TableState.{stale_among}
use Rattle.table_engine.proofs.table_engine.first_stale.Given as goal

abbrev pub invariant-loop-corner : goal.invariant-loop-corner
invariant-loop-corner l = stale_among (take l.corner-index l.corners) l.fresh ≡ []
