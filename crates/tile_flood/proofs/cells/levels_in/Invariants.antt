use Rattle.tile_flood.proofs.Prelude.{ℕ, length, levels_of, slice_index_or, void, ◌<◌, ◌≡◌}
use Rattle.tile_flood.proofs.cells.levels_in.Given as goal

abbrev pub invariant-loop-e : goal.invariant-loop-e
invariant-loop-e l = record {
  whole : length l.levels.items ≡ length l.cells;
  below : (f : ℕ) → f < l.e → slice_index_or l.levels.items f void ≡ slice_index_or (levels_of l.cells) f void;
}
