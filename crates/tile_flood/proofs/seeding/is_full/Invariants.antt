use Rattle.tile_flood.proofs.Prelude.{IsTrue, ℕ, bare_block, is_solid, ◌*◌, ◌+◌, ◌<◌, ◌≤◌}
use Rattle.tile_flood.proofs.seeding.is_full.Given as goal

abbrev pub invariant-loop-j : goal.invariant-loop-j
invariant-loop-j l = IsTrue l.full → (k : ℕ) → l.from ≤ k → k < l.j → IsTrue (is_solid (bare_block l.block.n l.block.heights.now) (l.i * l.block.n + k))
