use Rattle.stored_mosaic.proofs.Prelude.{IsRimPoint, Ok, OnlyReads, ℕ, false, is_in_box, is_void_at, point_of, slice_index_or, vec_len, ◌&&◌, ◌*◌, ◌-◌, ◌<◌, ◌≡◌}
use Rattle.stored_mosaic.proofs.rims.read_rim.Given as goal

abbrev pub invariant-loop-number : goal.invariant-loop-number
invariant-loop-number g l = record {
  reads : OnlyReads {T = Unit {0}} g.S.Samples l.fn.samples l.samples (Ok tt);
  whole : vec_len l.voids ≡ 4 * (g.S.Samples.side_of l.fn.samples - 1);
  known : g.S.Samples.is_honest l.samples → (e k : ℕ) → k < l.number → IsRimPoint (g.S.Samples.side_of l.fn.samples) k e
      → slice_index_or l.voids.items k false ≡ (is_in_box l.patch.from l.patch.to (point_of (g.S.Samples.side_of l.fn.samples) l.corner e) && is_void_at (g.S.Samples.mosaic l.fn.samples) (point_of (g.S.Samples.side_of l.fn.samples) l.corner e));
}
