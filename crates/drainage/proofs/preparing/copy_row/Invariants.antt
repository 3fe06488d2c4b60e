use Rattle.std.specs.Prelude.{◌≡◌, ℕ, ◌+◌, ◌*◌, ◌<◌, length, slice_index_or}
use Rattle.drainage.proofs.Prelude.{place_in, void}
use Rattle.drainage.proofs.preparing.copy_row.Given as goal

abbrev pub invariant-loop-column : goal.invariant-loop-column
invariant-loop-column l = record {
  whole : length l.levels ≡ length l.fn.levels;
  before : (r s : ℕ) → r < l.row → s < l.fn.side → slice_index_or l.levels (place_in l.fn.side r s) void ≡ slice_index_or l.tile (r * l.fn.side + s) void;
  here : (s : ℕ) → s < l.column → slice_index_or l.levels (place_in l.fn.side l.row s) void ≡ slice_index_or l.tile (l.row * l.fn.side + s) void;
}
