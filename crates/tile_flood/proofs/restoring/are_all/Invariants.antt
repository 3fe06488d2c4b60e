use Rattle.std.proofs.Common.{◌≡◌, ℕ, ◌<◌, true, false, IsTrue, slice_index_or}
use Rattle.tile_flood.proofs.restoring.are_all.Given as goal

abbrev pub invariant-loop-e : goal.invariant-loop-e
invariant-loop-e l = IsTrue l.all → (f : ℕ) → f < l.e → slice_index_or l.stands f false ≡ true
