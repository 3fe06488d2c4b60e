use Rattle.tile_flood.proofs.Prelude.{Cell, IsFresh, ℕ, length, slice_index_or, ◌<◌, ◌≡◌}
use Rattle.tile_flood.proofs.cells.unlabelled.Given as goal

abbrev pub invariant-loop-e : goal.invariant-loop-e
invariant-loop-e l = record {
  whole : length l.cells.items ≡ length l.heights;
  fresh : (f : ℕ) (d : Cell) → f < l.e → IsFresh l.heights f (slice_index_or l.cells.items f d);
}
