use Rattle.std.proofs.Common.{◌≡◌, map, take, drop, ◌++◌}
use Rattle.disk.specs.Record.{settled_with, left_content}
use Rattle.disk.proofs.sector.settle_each.Given as goal

abbrev pub invariant-loop-sector : goal.invariant-loop-sector
invariant-loop-sector l = l.sectors ≡ map (λ sector. settled_with (left_content l.torn l.synced sector)) (take l.sector-index l.fn.sectors) ++ drop l.sector-index l.fn.sectors
