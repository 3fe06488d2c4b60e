use Rattle.catalogue.proofs.Prelude.{Ok, OnlyReads, Option, ℤ, disagrees, drop, filter_map, sample_in, ◌≡◌}
use Rattle.catalogue.proofs.Differing.{differ_from}
use Rattle.catalogue.proofs.seams_between.disagrees.Given as goal

abbrev pub invariant-loop-corner : goal.invariant-loop-corner
invariant-loop-corner g l = record {
  reads : OnlyReads {T = Option ℤ} g.S.Samples l.fn.samples l.samples (Ok l.first);
  found : g.S.Samples.is_honest l.samples
      → disagrees (g.S.Samples.mosaic l.fn.samples) l.point
      ≡ differ_from l.first (filter_map (λ c. sample_in (g.S.Samples.mosaic l.fn.samples) c l.point) (drop l.corner-index l.corner-items));
}
