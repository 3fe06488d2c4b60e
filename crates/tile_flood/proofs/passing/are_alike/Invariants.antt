use Rattle.std.proofs.Common.{◌≡◌, ℕ, ◌+◌, ◌<◌, IsTrue, slice_index}
use Rattle.tile_flood.proofs.passing.are_alike.Given as goal

abbrev pub invariant-loop-k : goal.invariant-loop-k
invariant-loop-k l = IsTrue l.alike → (j : ℕ) → j < l.k → slice_index l.labels (l.e + j) ≡ slice_index l.labels (l.f + j)
