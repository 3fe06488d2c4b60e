use Rattle.std.proofs.Common.{ℕ, ◌<◌, ◌+◌, IsTrue}
use Rattle.tile_flood.specs.Restoring.{IsRelaxedTo}
use Rattle.tile_flood.proofs.restoring.are_relaxed.Given as goal

abbrev pub invariant-loop-k : goal.invariant-loop-k
invariant-loop-k l = IsTrue l.relaxed → (d : ℕ) → d < l.k → IsRelaxedTo l.planes.block.heights.now l.planes.levels.now (l.e + d) (l.f + d)
