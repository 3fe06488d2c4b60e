use Rattle.std.proofs.Common.{◌≢◌, ℕ, ◌<◌, ℤ, None, slice_index, slice_index_or}
use Rattle.lattice.specs.Mosaic.{void}
use Rattle.labelling.specs.Raising.{raised_level}
use Rattle.tile_labellings.proofs.reading.do_marks_fit.Given as goal

abbrev pub invariant-loop-index : goal.invariant-loop-index
invariant-loop-index l = record {
  fit : (e : ℕ) → e < l.index → raised_level l.rim (slice_index_or l.labelled.levels e void) (slice_index l.labelled.labels e) ≢ None;
  any : (level : ℤ) → level ≢ void → raised_level l.rim level l.known ≢ None;
}
