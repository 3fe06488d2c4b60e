use Rattle.std.proofs.Common.{◌≡◌, ◌++◌, take}
use Rattle.std.specs.Prelude.{flat_map}
use Rattle.derived.specs.Kept.{stale_in}
use Rattle.store.specs.Stores.{root_of}
use Rattle.server.specs.Report.{tile_line}
use Rattle.server.proofs.reporting.extend_tiles.Given as goal

abbrev pub invariant-loop-corner : goal.invariant-loop-corner
invariant-loop-corner g l = l.text.items ≡ l.initial.text.items ++ flat_map (tile_line (stale_in (root_of l.store))) (take l.corner-index l.corners)
