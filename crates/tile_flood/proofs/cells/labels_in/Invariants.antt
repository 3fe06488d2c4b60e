use Rattle.tile_flood.proofs.Prelude.{ℕ, labels_of, length, slice_index_or, ◌<◌, ◌≡◌}
use Rattle.tile_flood.proofs.cells.labels_in.Given as goal

abbrev pub invariant-loop-e : goal.invariant-loop-e
invariant-loop-e l = record {
  whole : length l.labels.items ≡ length l.cells;
  below : (f : ℕ) → f < l.e → slice_index_or l.labels.items f 0 ≡ slice_index_or (labels_of l.cells) f 0;
}
