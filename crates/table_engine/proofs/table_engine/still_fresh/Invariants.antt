use Rattle.std.proofs.Common.{◌≡◌, filter, not, take}
use Rattle.catalogue.specs.Tiles.{corners_of}
use Rattle.edits.specs.Edits.{goes_stale_by}
use Rattle.table_engine.proofs.table_engine.still_fresh.Given as goal

abbrev pub invariant-loop-corner : goal.invariant-loop-corner
invariant-loop-corner l = l.fresh.items ≡ filter (λ p. not (goes_stale_by l.table.side (corners_of l.table) l.edit p)) (take l.corner-index l.corners)
