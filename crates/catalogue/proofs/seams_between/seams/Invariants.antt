use Rattle.catalogue.proofs.Prelude.{Ok, OnlyReads, ℕ, negsuc, pos, seams_before, ◌*ℤ◌, ◌+ℤ◌, ◌≡◌, ◌≤ℤ◌}
use Rattle.catalogue.proofs.seams_between.seams.Given as goal

abbrev pub invariant-loop-lat : goal.invariant-loop-lat
invariant-loop-lat g l = record {
  reads : OnlyReads {T = ℕ} g.S.Samples l.fn.samples l.samples (Ok l.count);
  high : l.lat ≤ℤ pos 90;
  few : pos l.count ≤ℤ (pos 5184000 *ℤ (l.lat +ℤ pos 90));
  count : g.S.Samples.is_honest l.samples → l.count ≡ seams_before (g.S.Samples.mosaic l.fn.samples) l.lat (negsuc 179);
}
