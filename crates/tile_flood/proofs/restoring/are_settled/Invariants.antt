use Rattle.std.proofs.Common.{ℕ, ◌<◌, ◌+◌, ◌-◌, ◌*◌, ◌/◌, ◌%◌}
use Rattle.tile_flood.specs.Restoring.{IsRelaxedTo}
use Rattle.tile_flood.proofs.restoring.are_settled.Given as goal

abbrev pub invariant-loop-d : goal.invariant-loop-d
invariant-loop-d l = (d k : ℕ) → d < l.d → k < l.count → IsRelaxedTo l.planes.block.heights.now l.planes.levels.now (l.e + k) ((l.e - l.planes.block.n - 1 + d / 3 * l.planes.block.n + d % 3) + k)
