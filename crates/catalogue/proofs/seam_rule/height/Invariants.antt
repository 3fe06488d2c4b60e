use Rattle.catalogue.proofs.Prelude.{Height, Ok, OnlyReads, drop, false, filter_map, height_of, is_height, sample_in, ◌≡◌}
use Rattle.catalogue.proofs.Sought.{height_from}
use Rattle.catalogue.proofs.seam_rule.height.Given as goal

abbrev pub invariant-loop-corner : goal.invariant-loop-corner
invariant-loop-corner g l = record {
  reads : OnlyReads {T = Height} g.S.Samples l.fn.samples l.samples (Ok l.found);
  sought : is_height l.found ≡ false;
  height : g.S.Samples.is_honest l.samples
      → height_of (g.S.Samples.mosaic l.fn.samples) l.point
      ≡ height_from l.found (filter_map (λ c. sample_in (g.S.Samples.mosaic l.fn.samples) c l.point) (drop l.corner-index l.corner-items));
}
