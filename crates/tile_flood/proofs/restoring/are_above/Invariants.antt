use Rattle.std.proofs.Common.{ℕ, ◌<◌, ◌+◌, IsTrue}
use Rattle.tile_flood.specs.Restoring.{IsAbove}
use Rattle.tile_flood.proofs.restoring.are_above.Given as goal

abbrev pub invariant-loop-k : goal.invariant-loop-k
invariant-loop-k l = IsTrue l.above → (d : ℕ) → d < l.k → IsAbove l.planes.block.heights.now l.planes.levels.now l.planes.labels.now (l.e + d)
