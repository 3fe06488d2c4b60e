use Rattle.catalogue.proofs.Prelude.{Ok, OnlyReads, ℕ, negsuc, pos, seams_before, ◌*ℤ◌, ◌+ℤ◌, ◌+◌, ◌≡◌, ◌≤ℤ◌}
use Rattle.catalogue.proofs.seams_between.seams_in_row.Given as goal

abbrev pub invariant-loop-lon : goal.invariant-loop-lon
invariant-loop-lon g l = record {
  reads : OnlyReads {T = ℕ} g.S.Samples l.fn.samples l.samples (Ok l.count);
  high : l.lon ≤ℤ pos 180;
  few : pos l.count ≤ℤ (pos 14400 *ℤ (l.lon +ℤ pos 180));
  count : g.S.Samples.is_honest l.samples
      → seams_before (g.S.Samples.mosaic l.fn.samples) l.lat l.lon ≡ seams_before (g.S.Samples.mosaic l.fn.samples) l.lat (negsuc 179) + l.count;
}
