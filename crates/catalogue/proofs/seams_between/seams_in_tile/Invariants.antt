use Rattle.catalogue.proofs.Prelude.{Ok, OnlyReads, ℕ, own_seams_below, ◌≡◌, ◌≤◌}
use Rattle.catalogue.proofs.seams_between.seams_in_tile.Given as goal

abbrev pub invariant-loop-number : goal.invariant-loop-number
invariant-loop-number g l = record {
  reads : OnlyReads {T = ℕ} g.S.Samples l.fn.samples l.samples (Ok l.count);
  few : l.count ≤ l.number;
  count : g.S.Samples.is_honest l.samples → l.count ≡ own_seams_below (g.S.Samples.mosaic l.fn.samples) l.corner l.number;
}
